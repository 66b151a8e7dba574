-- How the index is made, and how it is gone through.
use Rattle.std.specs.Prelude.{ℕ, ◌+◌, ◌≤◌, ◌<◌, ◌≡◌, List, true, false, cond, get_or, set}
use Rattle.loops.specs.First.{Passed, FirstAt}
use Rattle.journeys.specs.Service.{Service, RideAt}
use Rattle.departures.specs.Departures.{buckets, bucket_of, bucket_at, Falls, SameFrom}

-- one slot more: in force, it becomes the first of its bucket, and the one that was the first comes next
unfoldable pub with_slot : Service → ℕ → List ℕ → List ℕ
with_slot S i l = let h = bucket_at S i in cond (S.in_force i) (set (set l (buckets + i) (get_or l h 0)) h i) (set l (buckets + i) S.slots)

-- the index of the slots from number k on
pub record IndexedFrom (S : Service) (k : ℕ) (before l : List ℕ) : Type 0 where
  pub within : k ≤ S.slots
  pub first : (h : ℕ) → h < buckets → FirstAt (Falls S h) k S.slots (get_or l h 0)
  pub next : (i : ℕ) → k ≤ i → i < S.slots → S.in_force i ≡ true → FirstAt (Falls S (bucket_at S i)) (i + 1) S.slots (get_or l (buckets + i) 0)
  pub idle : (i : ℕ) → k ≤ i → i < S.slots → S.in_force i ≡ false → get_or l (buckets + i) 0 ≡ S.slots
  pub kept : SameFrom (buckets + S.slots) before l

-- the walk along a bucket has come to slot i: no slot before it is the one, and it falls into the bucket
pub record WalkedTo (S : Service) (u v d a i : ℕ) : Type 0 where
  pub high : i ≤ S.slots
  pub passed : Passed (λ k. RideAt S k u v d a) 0 i
  pub falls : i < S.slots → Falls S (bucket_of d) i
