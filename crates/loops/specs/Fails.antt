-- The first number that fails: what a loop answers that tests one number after the other and needs to know that those before it passed.
use Rattle.std.specs.Prelude.{ℕ, ◌≤◌, ◌<◌}

-- P holds of each number from `from` up to, not including, r
pub record HoldsTo (P : ℕ → Type 0) (from r : ℕ) : Type 0 where
  pub low : from ≤ r
  pub each : (k : ℕ) → from ≤ k → k < r → P k

-- r is the first number from `from` on, below `to`, of which P does not hold; or `to` where there is none
pub record FailsAt (P : ℕ → Type 0) (from to r : ℕ) : Type 0 where
  pub held : HoldsTo P from r
  pub high : r ≤ to
  pub here : r < to → ¬ (P r)
