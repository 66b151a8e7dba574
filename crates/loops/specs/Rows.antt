-- Rows of numbered things that rise.
use Rattle.std.specs.Prelude.{ℕ, ◌<◌, ◌≡◌}

-- the first m of f rise
abbrev pub Rises : {A : Type 0} → (A → A → Type 0) → (ℕ → A) → ℕ → Type 0
Rises R f m = (i k : ℕ) → i < k → k < m → R (f i) (f k)

-- x is one of the first m of f
abbrev pub Among : {A : Type 0} → (ℕ → A) → ℕ → A → Type 0
Among f m x = (k : ℕ) × (k < m) × (f k ≡ x)
