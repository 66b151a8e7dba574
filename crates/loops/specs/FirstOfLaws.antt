-- Laws of `first_of`: the turns of a loop, what no finding says of each number, and where a finding was made.
use Prim.Native.Nat.{ℕ, zero, suc, ◌+◌, ◌≤◌, ◌<◌}
use Rattle.std.proofs.Math.Path.{◌≡◌, refl, subst}
use Rattle.std.proofs.Common.{sym, arith, add-one, eq-or-lt_of_le}
use Rattle.std.proofs.Math.Option.{Option, none, some}
use Rattle.std.proofs.Math.Logic.{⊎_elim}
use Rattle.loops.specs.FirstOf.{or_else, first_of, FoundAt}

module _ {A : Type 0} (f : ℕ → Option A) where
  pub first_of_none : first_of f 0 ≡ none
  unfolding first_of
  first_of_none = refl

  pub first_of_more : (k : ℕ) → first_of f k ≡ none → f k ≡ none → first_of f (k + 1) ≡ none
  unfolding first_of
  first_of_more k e h = rw (add-one k, e, h)

  first_of_stays : (n k : ℕ) {x : A} → k ≤ n → first_of f k ≡ some x → first_of f n ≡ some x
  unfolding first_of
  first_of_stays zero zero le e = e
  first_of_stays zero (suc k) le e = absurd (omega arith)
  first_of_stays (suc n) k {x} le e =
      ⊎_elim (λ (h : k ≡ suc n). subst (λ (m : ℕ). first_of f m ≡ some x) h e) (λ (h : k < suc n). rw (first_of_stays n k (omega arith) e)) (eq-or-lt_of_le le)

  pub first_of_here : (n k : ℕ) {x : A} → k < n → first_of f k ≡ none → f k ≡ some x → first_of f n ≡ some x
  unfolding first_of
  first_of_here n k lt e h = first_of_stays n (suc k) (omega arith) (rw (e, h))

  both_none : (x y : Option A) → or_else x y ≡ none → (x ≡ none) × (y ≡ none)
  both_none none y e = (refl, e)
  both_none (some x) y e = absurd cc

  pub first_of_clear : (n k : ℕ) → first_of f n ≡ none → k < n → f k ≡ none
  unfolding first_of
  first_of_clear zero k e lt = absurd (omega arith)
  first_of_clear (suc n) k e lt =
      let z = both_none (first_of f n) (f n) e in
      ⊎_elim (λ (h : k ≡ n). subst (λ (m : ℕ). f m ≡ none) (sym h) z.1) (λ (h : k < n). first_of_clear n k z.0 h) (eq-or-lt_of_le (omega arith))

  pub first_of_all : (n : ℕ) → ((k : ℕ) → k < n → f k ≡ none) → first_of f n ≡ none
  unfolding first_of
  first_of_all zero h = refl
  first_of_all (suc n) h = rw (first_of_all n (λ k l. h k (omega arith)), h n (omega arith))

  pub first_of_found : (n : ℕ) {x : A} → first_of f n ≡ some x → FoundAt f n x
  unfolding first_of
  first_of_found zero e = absurd cc
  first_of_found (suc n) {x} e = go (first_of f n) e (λ h. first_of_found n h) (λ h k l. first_of_clear n k h l)
    where
      go : (o : Option A) → or_else o (f n) ≡ some x → (o ≡ some x → FoundAt f n x) → (o ≡ none → (k : ℕ) → k < n → f k ≡ none) → FoundAt f (suc n) x
      go none h found clear = record { at = n; below = omega arith; has = h; clear = clear refl }
      go (some y) h found clear =
          let r = found h in
          record { at = r.at; below = omega (arith, r.below); has = r.has; clear = r.clear }
