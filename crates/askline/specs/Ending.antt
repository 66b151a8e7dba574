-- The loop that seeks the timetable's end.
use Rattle.std.specs.Prelude.{ℕ, ◌+◌, ◌≤◌, ◌≡◌, List, length}
use Rattle.askline.specs.Input.{end_from, timetable_end}

-- the loop stands at a: what is still to be sought gives the whole answer
pub record Ending (t : List ℕ) (a : ℕ) : Type 0 where
  pub fuel : ℕ
  pub rest : timetable_end t ≡ end_from fuel t a
  pub within : a ≤ length t
  pub enough : length t ≤ fuel + a
