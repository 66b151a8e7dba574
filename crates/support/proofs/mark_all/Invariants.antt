use Rattle.support.specs.Marks.{MarkedTo}
use Rattle.support.proofs.mark_all.Given as goal

-- the first slots are noted
abbrev pub invariant-loop-i : goal.invariant-loop-i
invariant-loop-i l = MarkedTo l.file.bytes.now l.file.stops l.day.given l.day.runs.now l.room l.i
