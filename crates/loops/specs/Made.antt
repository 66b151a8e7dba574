-- The loop that makes all elements of a list one.
use Rattle.std.specs.Prelude.{ℕ, ◌≤◌, ◌≡◌, List, ◌++◌, length, replicate, drop}

-- l is l₀ with its first k elements made v
pub record Made {A : Type 0} (v : A) (l₀ l : List A) (k : ℕ) : Type 0 where
  pub within : k ≤ length l₀
  pub long : length l ≡ length l₀
  pub is : l ≡ replicate k v ++ drop k l₀
