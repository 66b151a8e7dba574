use Prim.Native.Nat.{◌-◌}
use lib.ListN.{length}
use Rattle.askline.specs.Ending.{Ending}
use Rattle.askline.proofs.timetable_end.Given as goal

abbrev pub invariant-loop-at : goal.invariant-loop-at
invariant-loop-at l = Ending l.input l.at

abbrev pub decreases-loop-at : goal.decreases-loop-at
decreases-loop-at l = length l.input - l.at
