-- A list whose first numbers are written over.
use Rattle.std.specs.Prelude.{ℕ, zero, suc, List, set}

-- f j stands at each place j below k; from there on the list is as it was
unfoldable pub filled : (ℕ → ℕ) → ℕ → List ℕ → List ℕ
filled f zero l = l
filled f (suc k) l = set (filled f k l) k (f k)
