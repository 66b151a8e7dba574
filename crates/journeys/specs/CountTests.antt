-- How many labels tables have, by tests that compute. What each says is in CountTestLaws.
use Rattle.std.specs.Prelude.{Bool, not, cond, ℕ, zero, suc, ◌+◌, leb, ltb, eqb}
use Rattle.journeys.specs.Tables.{Side, outs, ins, Tables}
use Rattle.journeys.specs.Count.{Timed}
use Rattle.journeys.specs.Tests.{and_then, or_then, allb}

-- how many numbers below n pass
unfoldable pub manyb : ℕ → (ℕ → Bool) → ℕ
manyb zero p = 0
manyb (suc n) p = cond (p n) 1 0 + manyb n p

-- the labels of a set with hub h stand from here on, and are so many
unfoldable pub first_with : Tables → Side → ℕ → ℕ → ℕ
first_with X side s h = X.start side s + manyb (X.end side s) (λ k. and_then (leb (X.start side s) k) (λ _. ltb (X.hub k) h))

unfoldable pub many_with : Tables → Side → ℕ → ℕ → ℕ
many_with X side s h = manyb (X.end side s) (λ k. and_then (leb (X.start side s) k) (λ _. eqb (X.hub k) h))

-- they do: label k is one; label k, if it is one, is among them
unfoldable pub is_withb : Tables → Side → ℕ → ℕ → ℕ → Bool
is_withb X side s h k = and_then (leb (X.start side s) k) (λ _. and_then (ltb k (X.end side s)) (λ _. eqb (X.hub k) h))

unfoldable pub amongb : Tables → Side → ℕ → ℕ → ℕ → Bool
amongb X side s h k = or_then (not (is_withb X side s h k))
    (λ _. and_then (leb (first_with X side s h) k) (λ _. ltb k (first_with X side s h + many_with X side s h)))

unfoldable pub withb : Tables → Side → ℕ → ℕ → Bool
withb X side s h = and_then (allb (many_with X side s h) (λ i. is_withb X side s h (first_with X side s h + i))) (λ _. allb (X.end side s) (amongb X side s h))

unfoldable pub row_with : Tables → Side → ℕ → ℕ → ℕ → Timed
row_with X side s h i = let k = first_with X side s h + i in record { dep = X.dep k; arr = X.arr k; pivot = X.pivot k }

-- the labels u to v: an out-label's owner is u, an in-label's v
unfoldable pub many_for : Tables → ℕ → ℕ → ℕ
many_for X u v = cond (ltb v u) (many_with X outs u v) (many_with X ins v u)

unfoldable pub row_for : Tables → ℕ → ℕ → ℕ → Timed
row_for X u v = cond (ltb v u) (row_with X outs u v) (row_with X ins v u)

unfoldable pub countsb : Tables → Bool
countsb X = allb X.stops (λ s. allb X.stops (λ h. and_then (withb X outs s h) (λ _. withb X ins s h)))
