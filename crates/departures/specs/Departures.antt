-- The rides by departure: what stands in the index.
use Rattle.std.specs.Prelude.{ℕ, ◌+◌, ◌%◌, ◌≤◌, ◌<◌, ◌≡◌, List, true, false, length, get_or}
use Rattle.loops.specs.First.{FirstAt}
use Rattle.kinds.specs.Limits.{last_minute}
use Rattle.journeys.specs.Service.{Service}
use Rattle.timetable.specs.declared.Given.{Given}
use Rattle.timetable.specs.Numbers.{GoodNumbers}
use Rattle.timetable.specs.Slots.{slots_of, service_of}

-- a bucket a minute: rides share one where they leave at the same minute
abbrev pub buckets : ℕ
buckets = last_minute + 1

-- the bucket of what leaves at the minute d; what is no minute has one too
unfoldable pub bucket_of : ℕ → ℕ
bucket_of d = d % buckets

abbrev pub bucket_at : Service → ℕ → ℕ
bucket_at S i = bucket_of (S.ride i).dep

-- the ride at slot i is in force, and falls into bucket h
pub record Falls (S : Service) (h i : ℕ) : Type 0 where
  pub forced : S.in_force i ≡ true
  pub bucket : bucket_at S i ≡ h

-- at the place of each bucket stands its first slot, and behind them, at the place of each slot, the next one of the same bucket; the number of
-- slots where there is none, and at a slot that is not in force
pub record Indexed (S : Service) (at : ℕ → ℕ) : Type 0 where
  pub first : (h : ℕ) → h < buckets → FirstAt (Falls S h) 0 S.slots (at h)
  pub next : (i : ℕ) → i < S.slots → S.in_force i ≡ true → FirstAt (Falls S (bucket_at S i)) (i + 1) S.slots (at (buckets + i))
  pub idle : (i : ℕ) → i < S.slots → S.in_force i ≡ false → at (buckets + i) ≡ S.slots

-- from this place on all is as it was
pub record SameFrom (place : ℕ) (before after : List ℕ) : Type 0 where
  pub long : length after ≡ length before
  pub beyond : (p : ℕ) → place ≤ p → get_or after p 0 ≡ get_or before p 0

-- good numbers, and their rides by departure written down
pub record ByDeparture (given : Given) (runs index : List ℕ) : Type 0 where
  pub numbers : GoodNumbers given runs
  pub long : buckets + slots_of given ≤ length index
  pub are : Indexed (service_of given runs) (λ p. get_or index p 0)
