-- Laws of `all_b` and `same_b`: the turns of a loop, and what a passed test says of each number.
use Rattle.std.specs.Prelude.{ℕ, zero, suc, ◌+◌, ◌<◌, ◌≡◌, refl, List, Bool, true, false, cond, get_or, eqb}
use Rattle.std.proofs.Common.{sym, ◌∙◌, ⊎_elim, arith, add-one, eq-or-lt_of_le, eqb-true, eq-eqb, ne_eqb}
use Rattle.loops.specs.Every.{all_b, same_b}

pub all_none : (p : ℕ → Bool) → all_b p 0 ≡ true
unfolding all_b
all_none p = refl

pub all_more : (p : ℕ → Bool) (k : ℕ) → all_b p k ≡ true → p k ≡ true → all_b p (k + 1) ≡ true
unfolding all_b
all_more p k a h = rw (add-one, a, h)

pub all_fails : (p : ℕ → Bool) (n k : ℕ) → k < n → p k ≡ false → all_b p n ≡ false
unfolding all_b
all_fails p zero k lt h = absurd (omega arith)
all_fails p (suc n) k lt h =
    ⊎_elim (λ (e : k ≡ n). rw (← e, h) (both (all_b p k))) (λ (l : k < n). rw (all_fails p n k l h)) (eq-or-lt_of_le (omega arith))
  where
    both : (b : Bool) → cond b false false ≡ false
    both true = refl
    both false = refl

pub all_at : (p : ℕ → Bool) (n k : ℕ) → all_b p n ≡ true → k < n → p k ≡ true
all_at p n k a lt = go (p k) (λ e. all_fails p n k lt e)
  where
    go : (b : Bool) → (b ≡ false → all_b p n ≡ false) → b ≡ true
    go true f = refl
    go false f = let z : true ≡ false = sym a ∙ f refl in absurd cc

pub all_of : (p : ℕ → Bool) (n : ℕ) → ((k : ℕ) → k < n → p k ≡ true) → all_b p n ≡ true
unfolding all_b
all_of p zero h = refl
all_of p (suc n) h = rw (all_of p n (λ k l. h k (omega arith)), h n (omega arith))

-- the same bytes, one by one
pub same_at : (s : List ℕ) (a : ℕ) (t : List ℕ) (b n : ℕ) → same_b s a t b n ≡ true → (k : ℕ) → k < n → get_or s (a + k) 0 ≡ get_or t (b + k) 0
unfolding same_b
same_at s a t b n e k lt = eqb-true _ _ (all_at (λ k. eqb (get_or s (a + k) 0) (get_or t (b + k) 0)) n k e lt)

pub same_of : (s : List ℕ) (a : ℕ) (t : List ℕ) (b n : ℕ) → ((k : ℕ) → k < n → get_or s (a + k) 0 ≡ get_or t (b + k) 0) → same_b s a t b n ≡ true
unfolding same_b
same_of s a t b n h = all_of (λ k. eqb (get_or s (a + k) 0) (get_or t (b + k) 0)) n (λ k l. eq-eqb _ _ (h k l))

-- the turns of the loop that compares
module _ (s : List ℕ) (a : ℕ) (t : List ℕ) (b : ℕ) where
  pub same_none : same_b s a t b 0 ≡ true
  unfolding same_b
  same_none = all_none _

  pub same_more : (k : ℕ) → same_b s a t b k ≡ true → get_or s (a + k) 0 ≡ get_or t (b + k) 0 → same_b s a t b (k + 1) ≡ true
  unfolding same_b
  same_more k h e = all_more _ k h (eq-eqb _ _ e)

  pub same_fails : (n k : ℕ) → k < n → (get_or s (a + k) 0 ≡ get_or t (b + k) 0 → ⊥) → same_b s a t b n ≡ false
  unfolding same_b
  same_fails n k l d = all_fails _ n k l (ne_eqb _ _ d)
