use Rattle.asks.specs.Join.{OutsDone}
use Rattle.asks.proofs.over_outs.Given as goal

abbrev pub invariant-loop-k : goal.invariant-loop-k
invariant-loop-k l = OutsDone l.file.bytes.now l.q.from l.q.to l.q.criterion l.fn.outs.start l.fn.outs.end l.ins.end l.best l.next l.k
