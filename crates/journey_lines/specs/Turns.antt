-- How many lines are still to come, at most: so the program ends.
use Rattle.std.specs.Prelude.{ℕ, suc, ◌+◌, ◌*◌, ◌-◌}
use Rattle.kinds.specs.Limits.{last_minute}
use Rattle.journey_lines.specs.Steps.{most_held}
use Rattle.journey_lines.specs.declared.Stage.{Stage}
use Rattle.journey_lines.specs.declared.Stage.TheVariants.{Refused, Asks, Over}

-- how many lines are left at most, where the input has `long` bytes: a number that falls at each step
abbrev pub left : ℕ → Stage → ℕ
left long (Refused r) = 1
left long (Asks z p) = 1 + (suc last_minute * (long - p.at) + (p.rides - p.ride))
left long Over = 0

abbrev pub most_lines : ℕ
most_lines = 1 + (suc last_minute * most_held + last_minute)
