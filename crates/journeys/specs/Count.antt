-- How many labels the rule has.
use Rattle.std.specs.Prelude.{ℕ, ◌+◌, ◌<◌, ◌≡◌}
use Rattle.std.proofs.Math.Option.{Option}
use Rattle.loops.specs.Fold.{fold_to}
use Rattle.loops.specs.Rows.{Rises, Among}
use Rattle.journeys.specs.Service.{Service}
use Rattle.journeys.specs.Rule.{Rule}

-- a label between two given stops
pub record Timed : Type 0 where
  pub dep : ℕ
  pub arr : ℕ
  pub pivot : Option ℕ

-- the labels u to v by the rule, all of them, are the first m of the row, departures rising
pub record PairLabels (S : Service) (u v m : ℕ) (row : ℕ → Timed) : Type 0 where
  pub rises : Rises (λ x y. x.dep < y.dep) row m
  pub sound : (i : ℕ) → i < m → Rule S u v (row i).dep (row i).arr (row i).pivot
  pub full : (d a : ℕ) (p : Option ℕ) → Rule S u v d a p → Among row m (record { dep = d; arr = a; pivot = p })

-- the sum over all ordered pairs of stops
unfoldable pub sum_pairs : ℕ → (ℕ → ℕ → ℕ) → ℕ
sum_pairs n f = fold_to (λ u x. fold_to (λ v y. y + f u v) n x) n 0

-- the rule has k labels
pub record RuleCount (S : Service) (k : ℕ) : Type 0 where
  pub count : ℕ → ℕ → ℕ
  pub row : ℕ → ℕ → ℕ → Timed
  pub labels : (u v : ℕ) → u < S.stops → v < S.stops → PairLabels S u v (count u v) (row u v)
  pub are : k ≡ sum_pairs S.stops count
