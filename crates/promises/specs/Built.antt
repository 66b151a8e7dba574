-- What a build that was not refused has written.
use Rattle.std.specs.Prelude.{ℕ, ◌≤◌, List, take}
use Rattle.timetable.specs.declared.Given.{Given}
use Rattle.timetable.specs.Numbers.{GoodNumbers}
use Rattle.timetable.specs.Slots.{service_of}
use Rattle.builder.specs.Build.{build_room, RuleFile}

-- what the builder has written, as long as it says
pub record BuildWrote (given : Given) (list : List ℕ) (work lent long labels : ℕ) (bytes : List ℕ) : Type 0 where
  pub numbers : GoodNumbers given list
  pub room : build_room ≤ work
  pub fits : long ≤ lent
  pub few : labels ≤ lent
  pub rule : RuleFile (service_of given list) (take long bytes)
