-- The first finding of a search: what a loop answers that looks at one number after the other and ends at the first that has a finding.
use Rattle.std.specs.Prelude.{ℕ, zero, suc, ◌<◌, ◌≡◌}
use Rattle.std.proofs.Math.Option.{Option, none, some}

-- a finding stays; else the next one counts
abbrev pub or_else : {A : Type 0} → Option A → Option A → Option A
or_else none next = next
or_else (some x) next = some x

-- f k is the finding at k: the first one at a number below n
unfoldable pub first_of : {A : Type 0} → (ℕ → Option A) → ℕ → Option A
first_of f zero = none
first_of f (suc n) = or_else (first_of f n) (f n)

-- the first finding is x, and it was made here
pub record FoundAt {A : Type 0} (f : ℕ → Option A) (n : ℕ) (x : A) : Type 0 where
  pub at : ℕ
  pub below : at < n
  pub has : f at ≡ some x
  pub clear : (k : ℕ) → k < at → f k ≡ none
