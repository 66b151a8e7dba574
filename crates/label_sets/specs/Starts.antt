-- Where the sets of labels start, as it is written down for those who look many sets up.
use Rattle.std.specs.Prelude.{ℕ, ◌+◌, ◌*◌, ◌≤◌, ◌<◌, ◌≡◌, List, length, get_or}
use Rattle.kinds.specs.Limits.{most_stops}
use Rattle.tables.specs.File.{start_of}
use Rattle.tables.specs.Good.{GoodFile}

-- "Working room for any call is a fixed size": two sets a stop, and one number more
abbrev pub starts_room : ℕ
starts_room = 2 * most_stops + 1

-- a good file of n stops, with the starts of its sets written down and the number of labels behind them
pub record Started (b : List ℕ) (n : ℕ) (room : List ℕ) : Type 0 where
  pub file : GoodFile b n
  pub long : 2 * n < length room
  pub are : (set : ℕ) → set ≤ 2 * n → get_or room set 0 ≡ start_of b set
