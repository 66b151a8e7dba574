use Rattle.words.specs.Digits.{Digits}
use Rattle.words.proofs.digits.Given as goal

abbrev pub invariant-loop-k : goal.invariant-loop-k
invariant-loop-k l = Digits l.s l.from l.value l.k
