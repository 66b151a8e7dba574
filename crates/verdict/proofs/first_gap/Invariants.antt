use mathlib.Core.Path.{◌≡◌}
use Rattle.std.specs.Prelude.{None}
use Rattle.timetable.specs.Slots.{service_of}
use Rattle.verdict.specs.Gaps.{SearchedTo, StopsTo}
use Rattle.verdict.proofs.first_gap.Given as goal

abbrev pub invariant-search : goal.invariant-search
invariant-search l = record { none_yet : l.gap ≡ None; searched : SearchedTo (service_of l.day.given l.day.runs.now) l.file.bytes.now l.file.stops l.room l.i }

abbrev pub invariant-loop-v : goal.invariant-loop-v
invariant-loop-v l =
    record { none_yet : l.gap ≡ None; stops : StopsTo (service_of l.day.given l.day.runs.now) l.file.bytes.now l.file.stops l.room l.ride l.i l.v }
