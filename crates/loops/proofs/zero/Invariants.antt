use Rattle.loops.specs.Made.{Made}
use Rattle.loops.proofs.zero.Given as goal

abbrev pub invariant-loop-i : goal.invariant-loop-i
invariant-loop-i g l = Made g.T.Number.zero l.initial.s l.s l.i
