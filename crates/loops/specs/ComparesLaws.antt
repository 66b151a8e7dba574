-- A comparison of two numbers tells what it says.
use Rattle.std.specs.Prelude.{ℕ, ◌≤◌, ◌≡◌, leb, eqb}
use Rattle.std.proofs.Common.{arith, leb-true, leb-false, eqb-true}
use Rattle.std.proofs.lemmas.Bool.{eqb-false}
use Rattle.loops.specs.Tells.{Tells}

pub tells_le : (m n : ℕ) → Tells (m ≤ n) (leb m n)
tells_le m n = record { holds = leb-true m n; fails = λ e h. omega (arith, leb-false m n e) }

pub tells_eq : (m n : ℕ) → Tells (m ≡ n) (eqb m n)
tells_eq m n = record { holds = eqb-true m n; fails = eqb-false m n }
