use Rattle.asks.specs.Join.{InsDone}
use Rattle.asks.proofs.over_ins.Given as goal

abbrev pub invariant-loop-k : goal.invariant-loop-k
invariant-loop-k l = InsDone l.file.bytes.now l.q.from l.q.to l.q.criterion l.in_to l.found l.k
