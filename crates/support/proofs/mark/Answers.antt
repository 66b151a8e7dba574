use native.Mathlib.Omega.{arith}
use Rattle.tables.specs.TablesLaws.{good_tables}
use Rattle.label_sets.specs.SetsLaws.{leaving_at, other_label}
use Rattle.support.specs.MarkLaws.{label_below, not_marked, marked_at}
use Rattle.support.proofs.mark.Goals as goal

pub bounds-room-k : goal.bounds-room-k
bounds-room-k c = omega (arith, label_below c.requires.started.file c.in-Some.ensures.label, c.requires.work_room_in_bounds)

pub returns-then-l-ride : goal.returns-then-l-ride
returns-then-l-ride c = let y = leaving_at c.in-Some.ensures in
    marked_at (good_tables c.requires.started.file) (rw c.if-l-ride.true at y)
    (omega (arith, label_below c.requires.started.file c.in-Some.ensures.label, c.requires.work_room_in_bounds))

pub returns-else-l-ride : goal.returns-else-l-ride
returns-else-l-ride c = not_marked (other_label (good_tables c.requires.started.file) c.in-Some.ensures c.if-l-ride.false)
