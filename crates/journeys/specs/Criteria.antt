-- The three asks: which time pairs fit, which of two is better, and the best of a set of pairs.
use Rattle.std.specs.Prelude.{ℕ, ◌+◌, ◌≤◌, ◌<◌, ◌≡◌, ◌⊎◌}
use Rattle.journeys.specs.declared.Criterion.{Criterion}
use Rattle.journeys.specs.declared.Criterion.TheVariants.{Early, Late, Short}

-- early: "departure at least t"; late: "arrival at most t"; short: "departure at least t, arrival at most t2"
abbrev pub Fits : Criterion → ℕ → ℕ → Type 0
Fits (Early t) d a = t ≤ d
Fits (Late t) d a = a ≤ t
Fits (Short t t2) d a = (t ≤ d) × (a ≤ t2)

-- (d, a) is better than (e, b). early: "least arrival, then latest departure"; late: "latest departure, then least arrival";
-- short: "least duration, then earliest departure" (a + e < b + d says that a - d is less than b - e)
abbrev pub Better : Criterion → ℕ → ℕ → ℕ → ℕ → Type 0
Better (Early t) d a e b = (a < b) ⊎ ((a ≡ b) × (e < d))
Better (Late t) d a e b = (e < d) ⊎ ((d ≡ e) × (a < b))
Better (Short t t2) d a e b = (a + e < b + d) ⊎ ((a + e ≡ b + d) × (d < e))

-- (d, a) is the best of the pairs P
pub record Best (P : ℕ → ℕ → Type 0) (c : Criterion) (d a : ℕ) : Type 0 where
  pub has : P d a
  pub fits : Fits c d a
  pub top : (e b : ℕ) → P e b → Fits c e b → ¬ (Better c e b d a)

-- a best pair there is
pub record Answer (P : ℕ → ℕ → Type 0) (c : Criterion) : Type 0 where
  pub dep : ℕ
  pub arr : ℕ
  pub best : Best P c dep arr

-- "no journey": no pair of P fits
abbrev pub Nothing : (ℕ → ℕ → Type 0) → Criterion → Type 0
Nothing P c = (d a : ℕ) → P d a → ¬ (Fits c d a)
