use Prim.Native.Nat.{◌-◌}
use Rattle.timetable.specs.Slots.{service_of}
use Rattle.departures.specs.Turns.{WalkedTo}
use Rattle.departures.proofs.find.Given as goal

abbrev pub invariant-loop-i : goal.invariant-loop-i
invariant-loop-i l = WalkedTo (service_of l.day.given l.day.runs.now) l.ride.from l.ride.to l.ride.dep l.ride.arr l.i

abbrev pub decreases-loop-i : goal.decreases-loop-i
decreases-loop-i l = l.none - l.i
