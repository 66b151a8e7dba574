use Rattle.loops.specs.Fails.{HoldsTo}
use Rattle.journeys.specs.Check.{SupportedAt}
use Rattle.tables.specs.File.{tables_of, start_of}
use Rattle.timetable.specs.Slots.{service_of}
use Rattle.support.proofs.first_of_set.Given as goal

-- the labels before this one are supported
abbrev pub invariant-loop-k : goal.invariant-loop-k
invariant-loop-k l = HoldsTo (SupportedAt (service_of l.day.given l.day.runs.now) (tables_of l.sets.file.bytes.now)) (start_of l.sets.file.bytes.now l.set) l.k
