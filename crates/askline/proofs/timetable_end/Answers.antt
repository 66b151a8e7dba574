use mathlib.Core.Path.{sym}
use Rattle.askline.specs.InputLaws.{ending_out}
use Rattle.askline.proofs.timetable_end.Goals as goal

pub returns-then-input-end : goal.returns-then-input-end
returns-then-input-end c = sym (ending_out c.loop-at.invariant _ c.seek-end.ensures.is c.if-input-end.true)
