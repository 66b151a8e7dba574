-- Laws of a chain of tests, cond b x (cond b' x' ..): what is known past a test that did not answer.
use Rattle.std.specs.Prelude.{◌≡◌, refl, Bool, true, false, cond}

-- the answer is not the first one, so the test failed and the rest answers
pub past : {A : Type 0} (b : Bool) {x y z : A} → cond b x y ≡ z → (x ≡ z → ⊥) → (b ≡ false) × (y ≡ z)
past true e n = absurd (n e)
past false e n = (refl, e)

-- the answer is not the second one, so the test passed
pub stays : {A : Type 0} (b : Bool) {x y z : A} → cond b x y ≡ z → (y ≡ z → ⊥) → (b ≡ true) × (x ≡ z)
stays true e n = (refl, e)
stays false e n = absurd (n e)

-- what holds of both answers holds of the one that the test gives
pub either : {A : Type 0} (P : A → Type 0) (b : Bool) {x y : A} → P x → P y → P (cond b x y)
either P true p q = p
either P false p q = q
