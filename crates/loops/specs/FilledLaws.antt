-- Laws of `filled`: the turns of a loop, and what stands at each place.
use Prim.Native.Nat.{ℕ, zero, suc, ◌+◌, ◌≤◌, ◌<◌}
use Rattle.std.specs.Prelude.{◌≡◌, List, length, set}
use Rattle.std.proofs.Math.Path.{refl, subst}
use Rattle.std.proofs.Common.{sym, ◌∙◌, arith, add-one, eq-or-lt_of_le, get_or-set_same}
use Rattle.std.proofs.Math.Logic.{⊎_elim}
use Rattle.std.proofs.Math.ListN.{get_or, length-set}
use Rattle.std.proofs.Math.Seq.{get_or-set_other}
use Rattle.loops.specs.Filled.{filled}

module _ (f : ℕ → ℕ) where
  pub filled_none : (l : List ℕ) → filled f 0 l ≡ l
  unfolding filled
  filled_none l = refl

  pub filled_more : (k : ℕ) (l : List ℕ) → filled f (k + 1) l ≡ set (filled f k l) k (f k)
  unfolding filled
  filled_more k l = rw (add-one k)

  pub length-filled : (k : ℕ) (l : List ℕ) → length (filled f k l) ≡ length l
  unfolding filled
  length-filled zero l = refl
  length-filled (suc k) l = length-set (filled f k l) k (f k) ∙ length-filled k l

  pub filled_at : (k : ℕ) (l : List ℕ) (j : ℕ) → j < k → k ≤ length l → get_or (filled f k l) j 0 ≡ f j
  unfolding filled
  filled_at zero l j lt le = absurd (omega arith)
  filled_at (suc k) l j lt le =
      ⊎_elim
      (λ (e : j ≡ k). subst (λ (i : ℕ). get_or (set (filled f k l) k (f k)) i 0 ≡ f i) (sym e)
      (get_or-set_same (filled f k l) k (f k) 0 (omega (arith, length-filled k l))))
      (λ (h : j < k). get_or-set_other (filled f k l) k j (f k) 0 (λ e. omega arith) ∙ filled_at k l j h (omega arith)) (eq-or-lt_of_le (omega arith))

  pub filled_beyond : (k : ℕ) (l : List ℕ) (j : ℕ) → k ≤ j → get_or (filled f k l) j 0 ≡ get_or l j 0
  unfolding filled
  filled_beyond zero l j le = refl
  filled_beyond (suc k) l j le = get_or-set_other (filled f k l) k j (f k) 0 (λ e. omega arith) ∙ filled_beyond k l j (omega arith)
