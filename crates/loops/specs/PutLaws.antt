-- Laws of `put_from`: what stands at each place.
use Rattle.std.specs.Prelude.{ℕ, zero, suc, ◌+◌, ◌≤◌, ◌<◌, ◌≡◌, refl, List, [], ◌∷◌, ◌++◌, length, get_or, set}
use Rattle.std.proofs.Common.{ap, ◌∙◌, arith, add-zero, length-set, get_or-set_same, get_or-set_other}
use Rattle.loops.specs.Put.{put_from}

pub put_length : (l : List ℕ) (i : ℕ) (vs : List ℕ) → length (put_from l i vs) ≡ length l
put_length l i [] = refl
put_length l i (v ∷ vs) = put_length (set l i v) (i + 1) vs ∙ length-set l i v

-- one list behind the other
pub put_append : (vs l : List ℕ) (i : ℕ) (ws : List ℕ) → put_from (put_from l i vs) (i + length vs) ws ≡ put_from l i (vs ++ ws)
put_append [] l i ws = rw add-zero
put_append (v ∷ vs) l i ws =
    let e : i + suc (length vs) ≡ i + 1 + length vs = omega arith in
    rw e (put_append vs (set l i v) (i + 1) ws)

pub put_before : (l : List ℕ) (i : ℕ) (vs : List ℕ) (j : ℕ) → j < i → get_or (put_from l i vs) j 0 ≡ get_or l j 0
put_before l i [] j h = refl
put_before l i (v ∷ vs) j h = put_before (set l i v) (i + 1) vs j (omega arith) ∙ get_or-set_other l i j v 0 (λ (e : j ≡ i). omega arith)

pub put_after : (l : List ℕ) (i : ℕ) (vs : List ℕ) (j : ℕ) → i + length vs ≤ j → get_or (put_from l i vs) j 0 ≡ get_or l j 0
put_after l i [] j h = refl
put_after l i (v ∷ vs) j h =
    put_after (set l i v) (i + 1) vs j (omega arith) ∙ get_or-set_other l i j v 0 (λ (e : j ≡ i). omega arith)

-- the number f of those put in
pub put_at : (l : List ℕ) (i : ℕ) (vs : List ℕ) (f : ℕ) → f < length vs → i + length vs ≤ length l → get_or (put_from l i vs) (i + f) 0 ≡ get_or vs f 0
put_at l i [] f h r = absurd (omega arith)
put_at l i (v ∷ vs) zero h r = rw add-zero (put_before (set l i v) (i + 1) vs i (omega arith) ∙ get_or-set_same l i v 0 (omega arith))
put_at l i (v ∷ vs) (suc f) h r =
    let e : i + suc f ≡ i + 1 + f = omega arith in
    ap (λ (j : ℕ). get_or (put_from (set l i v) (i + 1) vs) j 0) e ∙ put_at (set l i v) (i + 1) vs f (omega arith) (omega (arith, length-set l i v))
