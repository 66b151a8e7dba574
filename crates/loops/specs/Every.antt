-- A test of every number below n, and whether two stretches of bytes are the same.
use Rattle.std.specs.Prelude.{ℕ, zero, suc, ◌+◌, List, Bool, true, false, cond, get_or, eqb}

-- p holds of each number below n
unfoldable pub all_b : (ℕ → Bool) → ℕ → Bool
all_b p zero = true
all_b p (suc n) = cond (all_b p n) (p n) false

-- n bytes of s from a on are those of t from b on
unfoldable pub same_b : List ℕ → ℕ → List ℕ → ℕ → ℕ → Bool
same_b s a t b n = all_b (λ k. eqb (get_or s (a + k) 0) (get_or t (b + k) 0)) n
