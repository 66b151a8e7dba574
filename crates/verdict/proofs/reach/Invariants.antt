use Rattle.verdict.specs.Minutes.{TakenOuts}
use Rattle.verdict.proofs.reach.Given as goal

abbrev pub invariant-loop-k : goal.invariant-loop-k
invariant-loop-k l = TakenOuts l.file.bytes.now l.file.stops l.u l.d l.at l.k-end l.initial.room l.room l.k
