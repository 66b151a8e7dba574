-- How many numbers there are such that.
use Rattle.std.specs.Prelude.{ℕ, suc, ◌≤◌, ◌<◌, ◌≡◌}

-- k of the numbers from m up to, not including, `top` have P
pub data CountFrom (P : ℕ → Type 0) (top : ℕ) : ℕ → ℕ → Type 0 where
  past : {m k : ℕ} → top ≤ m → k ≡ 0 → CountFrom P top m k
  has : {m j k : ℕ} → m < top → P m → CountFrom P top (suc m) j → k ≡ suc j → CountFrom P top m k
  lacks : {m k : ℕ} → m < top → ¬ (P m) → CountFrom P top (suc m) k → CountFrom P top m k
