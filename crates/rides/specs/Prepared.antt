-- What the working room of an ask with rides holds beside the starts of the sets and the rides by departure behind them.
use Rattle.std.specs.Prelude.{ℕ, ◌+◌, ◌*◌, ◌<◌, ◌≡◌, List, length, get_or}
use Rattle.timetable.specs.declared.Given.{Given}
use Rattle.timetable.specs.Slots.{slots_of}
use Rattle.departures.specs.Departures.{buckets, SameFrom}
use Rattle.label_sets.specs.Starts.{starts_room}
use Rattle.opening.specs.Opening.{behind_starts}

-- the rest of the room is as it was: between the starts and the rides, and behind the rides
pub record Beside (n : ℕ) (given : Given) (before after : List ℕ) : Type 0 where
  pub long : length after ≡ length before
  pub between : (p : ℕ) → 2 * n < p → p < starts_room → get_or after p 0 ≡ get_or before p 0
  pub behind : SameFrom (buckets + slots_of given) (behind_starts before) (behind_starts after)
