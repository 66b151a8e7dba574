use mathlib.Core.Path.{◌≡◌}
use mathlib.Core.Option.{none}
use Rattle.loops.specs.FirstOf.{first_of}
use Rattle.timetable.specs.Numbers.{refused_run}
use Rattle.timetable.proofs.judge_runs.Given as goal

-- no run before this one is refused
abbrev pub invariant-loop-i : goal.invariant-loop-i
invariant-loop-i l = first_of (refused_run l.stops l.runs) l.i ≡ none
