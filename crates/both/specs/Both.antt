-- Tables and timetable together: how they are judged.
use Rattle.std.specs.Prelude.{ℕ, ◌+◌, ◌≡◌, List, eqb, Err, Ok, Result}
use Rattle.loops.specs.Unless.{unless}
use Rattle.kinds.specs.Limits.{most_labels}
use Rattle.kinds.specs.Refusals.{refusal}
use Rattle.tables.specs.Good.{GoodFile}
use Rattle.timetable.specs.declared.Given.{Given}
use Rattle.timetable.specs.Numbers.{GoodNumbers}
use Rattle.label_sets.specs.Starts.{starts_room}
use Rattle.kinds.specs.declared.Reason.TheVariants as reason
use Rattle.kinds.specs.declared.Refusal.{Refusal}

-- "Check: 9, 10, 11, the timetable's, 21", and "With rides: after 11 those of the timetable numbers and 21": what is refused before tables
-- and timetable are held against each other, or the stop count of both
abbrev pub judged_both : Result ℕ Refusal → Result Unit Refusal → ℕ → Result ℕ Refusal
judged_both (Err x) j stops = Err x
judged_both (Ok n) (Err x) stops = Err x
judged_both (Ok n) (Ok _) stops = unless (eqb n stops) (Err (refusal reason.StopsDiffer 0)) (Ok n)

-- "Working room for any call is a fixed size": the starts of the sets, and behind them a number for each label
abbrev pub work_room : ℕ
work_room = starts_room + most_labels

-- a good file of n stops, and good numbers of as many
pub record BothGood (b : List ℕ) (n : ℕ) (given : Given) (list : List ℕ) : Type 0 where
  pub same : n ≡ given.stops
  pub file : GoodFile b n
  pub numbers : GoodNumbers given list
