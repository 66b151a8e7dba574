-- What the tests of a criterion say.
use Rattle.std.specs.Prelude.{ℕ, ◌≤◌, ◌<◌, ◌≡◌, refl, ◌⊎◌, Bool, cond, ltb, leb, eqb}
use Rattle.std.proofs.Common.{sym, inl, inr, arith, ltb-true, ltb-false, leb-true, leb-false, eqb-true}
use Rattle.std.proofs.Math.Bool.{true, false}
use Rattle.std.proofs.lemmas.Bool.{eqb-false}
use Rattle.journeys.specs.declared.Criterion.{Criterion}
use Rattle.journeys.specs.declared.Criterion.TheVariants.{Early, Late, Short}
use Rattle.journeys.specs.Criteria.{Fits, Better}
use Rattle.asks.specs.Found.{fits_b, ahead_b, better_b}

-- what the tests say
pub fits_true : (c : Criterion) (d a : ℕ) → fits_b c d a ≡ true → Fits c d a
unfolding fits_b
fits_true (Early t) d a e = leb-true t d e
fits_true (Late t) d a e = leb-true a t e
fits_true (Short t t2) d a e = go (leb t d) (leb-true t d) e
  where
    go : (b : Bool) → (b ≡ true → t ≤ d) → cond b (leb a t2) false ≡ true → (t ≤ d) × (a ≤ t2)
    go true f q = (f refl, leb-true a t2 q)
    go false f q = absurd cc

pub fits_false : (c : Criterion) (d a : ℕ) → fits_b c d a ≡ false → ¬ (Fits c d a)
unfolding fits_b
fits_false (Early t) d a e f = omega (arith, leb-false t d e)
fits_false (Late t) d a e f = omega (arith, leb-false a t e)
fits_false (Short t t2) d a e f = go (leb t d) (leb-false t d) e
  where
    go : (b : Bool) → (b ≡ false → d < t) → cond b (leb a t2) false ≡ false → ⊥
    go true g q = omega (arith, leb-false a t2 q, f.1)
    go false g q = omega (arith, g refl, f.0)

pub ahead_true : (x y : ℕ) (tie : Bool) → ahead_b x y tie ≡ true → (x < y) ⊎ ((x ≡ y) × (tie ≡ true))
unfolding ahead_b
ahead_true x y tie e = go (ltb x y) (eqb x y) (ltb-true x y) (eqb-true x y) e
  where
    go : (b b' : Bool) → (b ≡ true → x < y) → (b' ≡ true → x ≡ y) → cond b true (cond b' tie false) ≡ true → (x < y) ⊎ ((x ≡ y) × (tie ≡ true))
    go true b' f g q = inl (f refl)
    go false true f g q = inr (g refl, q)
    go false false f g q = absurd cc

pub ahead_false : (x y : ℕ) (tie : Bool) → ahead_b x y tie ≡ false → (y ≤ x) × (x ≡ y → tie ≡ false)
unfolding ahead_b
ahead_false x y tie e = go (ltb x y) (eqb x y) (ltb-false x y) (eqb-false x y) e
  where
    go : (b b' : Bool) → (b ≡ false → y ≤ x) → (b' ≡ false → x ≡ y → ⊥) → cond b true (cond b' tie false) ≡ false → (y ≤ x) × (x ≡ y → tie ≡ false)
    go true b' f g q = absurd cc
    go false true f g q = (f refl, λ _. q)
    go false false f g q = (f refl, λ h. absurd (g refl h))

pub better_true : (c : Criterion) (d a e b : ℕ) → better_b c d a e b ≡ true → Better c d a e b
better_true (Early t) d a e b q = elim (ahead_true _ _ _ q) [ inl x ↦ inl x | inr x ↦ inr (x.0, ltb-true _ _ x.1) ]
better_true (Late t) d a e b q = elim (ahead_true _ _ _ q) [ inl x ↦ inl x | inr x ↦ inr (sym x.0, ltb-true _ _ x.1) ]
better_true (Short t t2) d a e b q = elim (ahead_true _ _ _ q) [ inl x ↦ inl x | inr x ↦ inr (x.0, ltb-true _ _ x.1) ]

pub better_false : (c : Criterion) (d a e b : ℕ) → better_b c d a e b ≡ false → ¬ (Better c d a e b)
better_false (Early t) d a e b q (inl h) = omega (arith, (ahead_false _ _ _ q).0)
better_false (Early t) d a e b q (inr h) = omega (arith, ltb-false _ _ ((ahead_false _ _ _ q).1 h.0))
better_false (Late t) d a e b q (inl h) = omega (arith, (ahead_false _ _ _ q).0)
better_false (Late t) d a e b q (inr h) = omega (arith, ltb-false _ _ ((ahead_false _ _ _ q).1 (sym h.0)))
better_false (Short t t2) d a e b q (inl h) = omega (arith, (ahead_false _ _ _ q).0)
better_false (Short t t2) d a e b q (inr h) = omega (arith, ltb-false _ _ ((ahead_false _ _ _ q).1 h.0))
