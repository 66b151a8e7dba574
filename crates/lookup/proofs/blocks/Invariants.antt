use Rattle.lookup.specs.Mark.{Mixing}
use Rattle.lookup.proofs.blocks.Given as goal

abbrev pub invariant-loop-i : goal.invariant-loop-i
invariant-loop-i l = Mixing l.t l.from l.k l.count l.m l.i
