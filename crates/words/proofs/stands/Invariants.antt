use Rattle.std.specs.Prelude.{◌≡◌, true}
use Rattle.loops.specs.Every.{same_b}
use Rattle.words.proofs.stands.Given as goal

abbrev pub invariant-loop-k : goal.invariant-loop-k
invariant-loop-k l = same_b l.text l.at l.word 0 l.k ≡ true
