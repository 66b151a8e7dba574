use Rattle.loops.specs.Fails.{HoldsTo}
use Rattle.journeys.specs.Check.{SupportedAt}
use Rattle.tables.specs.File.{tables_of, start_of}
use Rattle.timetable.specs.Slots.{service_of}
use Rattle.support.proofs.first_unsupported.Given as goal

-- the labels of the sets before this one are supported
abbrev pub invariant-loop-set : goal.invariant-loop-set
invariant-loop-set l = HoldsTo (SupportedAt (service_of l.day.given l.day.runs.now) (tables_of l.sets.file.bytes.now)) 0 (start_of l.sets.file.bytes.now l.set)
