-- The first number such that: what a loop that searches by number answers.
use Rattle.std.specs.Prelude.{ℕ, ◌≤◌, ◌<◌}

-- P holds of no number from `from` up to, not including, r
pub record Passed (P : ℕ → Type 0) (from r : ℕ) : Type 0 where
  pub low : from ≤ r
  pub none : (k : ℕ) → from ≤ k → k < r → P k → ⊥

-- r is the first number from `from` on, below `to`, of which P holds; or `to` where there is none
pub record FirstAt (P : ℕ → Type 0) (from to r : ℕ) : Type 0 where
  pub passed : Passed P from r
  pub high : r ≤ to
  pub here : r < to → P r
