-- Laws of the best pair found so far: one pair more, sets with the same pairs, and sets of which one weakly dominates the other.
use Rattle.std.specs.Prelude.{ℕ, ◌≡◌, refl, Bool, cond, None, Option, Some}
use Rattle.std.proofs.Common.{subst₂, inl, inr, le_refl}
use Rattle.std.proofs.Math.Bool.{true, false}
use Rattle.journeys.specs.declared.Criterion.{Criterion}
use Rattle.journeys.specs.Criteria.{Fits, Better, Best, Nothing}
use Rattle.journeys.proofs.CriteriaLaws.{best_up, nothing_same, never_better, better_trans}
use Rattle.journeys.specs.Journey.{Within}
use Rattle.asks.specs.declared.Journey.{Journey}
use Rattle.asks.specs.Found.{FoundIn, Plus, fits_b, better_b, pair, against, taken}
use Rattle.asks.proofs.BetterLaws.{fits_true, fits_false, better_true, better_false}

module _ (P : ℕ → ℕ → Type 0) (c : Criterion) (d a : ℕ) where
  -- a pair that does not fit changes nothing
  unfit : (best : Option Journey) → ¬ (Fits c d a) → FoundIn P c best → FoundIn (Plus P d a) c best
  unfit (Some j) n f = record { has = inl f.has; fits = f.fits; top = top' }
    where
      top' : (e b : ℕ) → Plus P d a e b → Fits c e b → ¬ (Better c e b j.dep j.arr)
      top' e b (inl p) q = f.top e b p q
      top' e b (inr p) q = absurd (n (subst₂ (Fits c) p.0 p.1 q))
  unfit None n f = none'
    where
      none' : (e b : ℕ) → Plus P d a e b → ¬ (Fits c e b)
      none' e b (inl p) q = f e b p q
      none' e b (inr p) q = n (subst₂ (Fits c) p.0 p.1 q)

  -- one that fits is the new best, or leaves the old
  alone : Fits c d a → Nothing P c → Best (Plus P d a) c d a
  alone h n = record { has = inr (refl, refl); fits = h; top = top' }
    where
      top' : (e b : ℕ) → Plus P d a e b → Fits c e b → ¬ (Better c e b d a)
      top' e b (inl p) q m = n e b p q
      top' e b (inr p) q m = never_better c d a d a (le_refl d) (le_refl a) (subst₂ (λ x y. Better c x y d a) p.0 p.1 m)

  newer : (j : Journey) → Fits c d a → Better c d a j.dep j.arr → Best P c j.dep j.arr → Best (Plus P d a) c d a
  newer j h w f = record { has = inr (refl, refl); fits = h; top = top' }
    where
      top' : (e b : ℕ) → Plus P d a e b → Fits c e b → ¬ (Better c e b d a)
      top' e b (inl p) q m = f.top e b p q (better_trans c e b d a j.dep j.arr m w)
      top' e b (inr p) q m = never_better c d a d a (le_refl d) (le_refl a) (subst₂ (λ x y. Better c x y d a) p.0 p.1 m)

  older : (j : Journey) → ¬ (Better c d a j.dep j.arr) → Best P c j.dep j.arr → Best (Plus P d a) c j.dep j.arr
  older j w f = record { has = inl f.has; fits = f.fits; top = top' }
    where
      top' : (e b : ℕ) → Plus P d a e b → Fits c e b → ¬ (Better c e b j.dep j.arr)
      top' e b (inl p) q m = f.top e b p q m
      top' e b (inr p) q m = w (subst₂ (λ x y. Better c x y j.dep j.arr) p.0 p.1 m)

  against-found : (best : Option Journey) → Fits c d a → FoundIn P c best → FoundIn (Plus P d a) c (against c d a best)
  against-found (Some j) h f = go (better_b c d a j.dep j.arr) (better_true c d a j.dep j.arr) (better_false c d a j.dep j.arr)
    where
      go : (t : Bool) → (t ≡ true → Better c d a j.dep j.arr) → (t ≡ false → ¬ (Better c d a j.dep j.arr)) →
          FoundIn (Plus P d a) c (cond t (pair d a) (Some j))
      go true y n = newer j h (y refl) f
      go false y n = older j (n refl) f
  against-found None h f = alone h f

  pub taken-found : (best : Option Journey) → FoundIn P c best → FoundIn (Plus P d a) c (taken c d a best)
  unfolding taken
  taken-found best f = go (fits_b c d a) (fits_true c d a) (fits_false c d a)
    where
      go : (t : Bool) → (t ≡ true → Fits c d a) → (t ≡ false → ¬ (Fits c d a)) → FoundIn (Plus P d a) c (cond t (against c d a best) best)
      go true y n = against-found best (y refl) f
      go false y n = unfit best (n refl) f

-- sets with the same pairs
pub found_same : (P Q : ℕ → ℕ → Type 0) (c : Criterion) → ((d a : ℕ) → P d a → Q d a) → ((d a : ℕ) → Q d a → P d a) →
    (best : Option Journey) → FoundIn P c best → FoundIn Q c best
found_same P Q c to back (Some j) f = record { has = to j.dep j.arr f.has; fits = f.fits; top = λ e b q. f.top e b (back e b q) }
found_same P Q c to back None f = λ e b q. f e b (back e b q)

-- sets of which one is part of the other and weakly dominates it
pub found_over : (P Q : ℕ → ℕ → Type 0) (c : Criterion) → ((d a : ℕ) → P d a → Q d a) → ((d a : ℕ) → Q d a → Within P d a) →
    (best : Option Journey) → FoundIn P c best → FoundIn Q c best
found_over P Q c to back (Some j) f = best_up P Q to back c f
found_over P Q c to back None f = (nothing_same P Q to back c).0 f
