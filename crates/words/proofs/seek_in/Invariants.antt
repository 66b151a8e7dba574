use Rattle.words.specs.Turns.{Seeking}
use Rattle.words.proofs.seek_in.Given as goal

abbrev pub invariant-loop-k : goal.invariant-loop-k
invariant-loop-k l = Seeking l.x l.text l.from l.to l.k
