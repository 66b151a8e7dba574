-- Laws of `Tells`: the two answers, that there is no second one, and a test of the same under another name.
use Rattle.std.specs.Prelude.{ℕ, ◌≡◌, refl, ◌↔◌, Bool, true, false}
use Rattle.std.proofs.Common.{arith}
use Rattle.loops.specs.Tells.{Tells}

pub tells_yes : {P : Type 0} → P → Tells P true
tells_yes p = record { holds = λ _. p; fails = λ e. absurd cc }

pub tells_no : {P : Type 0} → ¬ P → Tells P false
tells_no n = record { holds = λ e. absurd cc; fails = λ _. n }

pub tells_one : {P : Type 0} (r s : Bool) → Tells P r → Tells P s → r ≡ s
tells_one true true p q = refl
tells_one true false p q = absurd (q.fails refl (p.holds refl))
tells_one false true p q = absurd (p.fails refl (q.holds refl))
tells_one false false p q = refl

pub tells_as : {P Q : Type 0} {r : Bool} → P ↔ Q → Tells P r → Tells Q r
tells_as f t = record { holds = λ e. f.0 (t.holds e); fails = λ e q. t.fails e (f.1 q) }

pub told_true : {P : Type 0} {r : Bool} → Tells P r → r ≡ true → P
told_true t e = t.holds e

pub told_false : {P : Type 0} {r : Bool} → Tells P r → r ≡ false → ¬ P
told_false t e = t.fails e
