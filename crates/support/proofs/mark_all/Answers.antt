use mathlib.Core.Path.{sym, subst, ◌∙◌}
use native.Mathlib.Omega.{arith}
use Rattle.timetable.proofs.SlotsLaws.{read_ride, read_none}
use Rattle.support.specs.Marks.{MarkedWith}
use Rattle.support.specs.MarkLaws.{marks_begin, marks_more, marks_idle}
use Rattle.support.proofs.mark_all.Goals as goal
use Rattle.support.proofs.mark_all.Goals.{in-Some, in_default}

pub loop-i-init : goal.loop-i-init
loop-i-init c = marks_begin c.args.room.now c.requires.both_good c.requires.work_room_in_bounds c.starts.auto.room c.starts.ensures

pub loop-i-preserved : goal.loop-i-preserved
loop-i-preserved c = elim c.match-ride_at.branch [
  | in-Some w ↦
      let R = read_ride c.requires.both_good.numbers c.loop-i.i (omega (arith, c.slots-i-end.ensures.value)) (sym w.in-Some.ensures) in
      marks_more c.loop-i.invariant R (subst (MarkedWith _ _ _ _) (sym w.room-is) w.mark.ensures)
  | in_default w ↦ marks_idle c.loop-i.invariant w.room-is (read_none c.requires.both_good.numbers c.loop-i.i (sym c.ride_at.ensures ∙ w.in_default.is))
]
