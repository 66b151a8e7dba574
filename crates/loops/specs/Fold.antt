-- What k turns of a loop make of a value.
use Rattle.std.specs.Prelude.{ℕ, zero, suc}

unfoldable pub fold_to : {A : Type 0} → (ℕ → A → A) → ℕ → A → A
fold_to step zero x = x
fold_to step (suc k) x = step k (fold_to step k x)
