use Rattle.timetable.specs.Slots.{service_of}
use Rattle.departures.specs.Turns.{IndexedFrom}
use Rattle.departures.proofs.index.Given as goal

-- the index of the slots from k on
abbrev pub invariant-loop-k : goal.invariant-loop-k
invariant-loop-k l = IndexedFrom (service_of l.day.given l.day.runs.now) l.k l.fn.index l.index
