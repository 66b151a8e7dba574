-- What the search for gaps answers, and how far it has come.
use Rattle.std.specs.Prelude.{ℕ, ◌≤◌, ◌<◌, ◌≢◌, List, length, None, Option, Some}
use Rattle.loops.specs.Fails.{HoldsTo}
use Rattle.kinds.specs.Limits.{last_minute}
use Rattle.journeys.specs.declared.Ride.{Ride}
use Rattle.journeys.specs.Service.{Service, RideAt}
use Rattle.journeys.specs.Tables.{Tables, outs}
use Rattle.journeys.specs.Check.{NoGap, NoGapAt, NoGaps}
use Rattle.tables.specs.File.{tables_of}
use Rattle.label_sets.specs.Starts.{Started}
use Rattle.both.specs.Both.{work_room}
use Rattle.verdict.specs.Early.{Reached}
use Rattle.verdict.specs.Minutes.{near, far, both_room}

-- "No gap at a run from u to x, leaving d and arriving a, and a stop v other than u"
abbrev pub NoGapOf : Tables → Ride → ℕ → Type 0
NoGapOf T r v = v ≢ r.from → NoGap T r.from r.to r.dep r.arr v

-- its stops are stops, and it arrives in time
pub record RideIn (n : ℕ) (r : Ride) : Type 0 where
  pub from_stop : r.from < n
  pub to_stop : r.to < n
  pub last : r.arr ≤ last_minute

-- a ride, with the minutes at which the hubs are reached from its two ends: leaving its start with it, and leaving its end when it arrives
pub record Compared (b : List ℕ) (n : ℕ) (room : List ℕ) (r : Ride) : Type 0 where
  pub started : Started b n room
  pub long : both_room ≤ length room
  pub last : r.arr ≤ last_minute
  pub by_near : Reached (tables_of b) r.from r.dep ((tables_of b).end outs r.from) (near room)
  pub by_far : Reached (tables_of b) r.to r.arr ((tables_of b).end outs r.to) (far room)

-- the first gap, "runs by number and, within a run, stops by number"
pub record FirstGap (S : Service) (T : Tables) (i v : ℕ) : Type 0 where
  pub slot : i < S.slots
  pub stop : v < T.stops
  pub fault : ¬ (NoGapAt S T i v)
  pub runs_before : (j w : ℕ) → j < i → w < T.stops → NoGapAt S T j w
  pub stops_before : (w : ℕ) → w < v → NoGapAt S T i w

abbrev pub GapIn : Service → Tables → Option (ℕ × ℕ) → Type 0
GapIn S T (Some (i, v)) = FirstGap S T i v
GapIn S T None = NoGaps S T

-- there is no gap at slot i and a stop below v
abbrev pub ClearTo : Service → Tables → ℕ → ℕ → Type 0
ClearTo S T i v = HoldsTo (NoGapAt S T i) 0 v

-- there is none at a slot below i; the starts of the sets are where they were
pub record SearchedTo (S : Service) (b : List ℕ) (n : ℕ) (room : List ℕ) (i : ℕ) : Type 0 where
  pub high : i ≤ S.slots
  pub started : Started b n room
  pub long : work_room ≤ length room
  pub clear : HoldsTo (λ j. ClearTo S (tables_of b) j n) 0 i

-- nor at slot i, whose ride is r, and a stop below v
pub record StopsTo (S : Service) (b : List ℕ) (n : ℕ) (room : List ℕ) (r : Ride) (i v : ℕ) : Type 0 where
  pub searched : SearchedTo S b n room i
  pub ride : RideAt S i r.from r.to r.dep r.arr
  pub compared : Compared b n room r
  pub high : v ≤ n
  pub clear : ClearTo S (tables_of b) i v
