use Rattle.verdict.specs.Minutes.{near, far, TakenIns}
use Rattle.verdict.proofs.arrivals.Given as goal

abbrev pub invariant-loop-k : goal.invariant-loop-k
invariant-loop-k l = TakenIns l.file.bytes.now (near l.room) (far l.room) l.v l.k-end l.s l.k
