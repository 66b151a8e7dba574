-- A stretch of numbers that a search halves at each turn: of what rises, the first number such that is found by asking in the middle.
use Rattle.std.specs.Prelude.{ℕ, ◌-◌, ◌≤◌, ◌<◌}

-- the stretch from `low` to `high` of from..to is left: the number before it does not have P, the number behind it has
pub record Halved (P : ℕ → Type 0) (from to low high : ℕ) : Type 0 where
  pub least : from ≤ low
  pub rising : low ≤ high
  pub most : high ≤ to
  pub before : from < low → ¬ (P (low - 1))
  pub behind : high < to → P high
