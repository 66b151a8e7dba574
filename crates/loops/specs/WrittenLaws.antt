-- Laws of `written`: one number, and two lists one after the other, the second into the part of the buffer that the first left.
use Rattle.std.specs.Prelude.{ℕ, zero, suc, ◌+◌, ◌-◌, ◌≤◌, ◌<◌, ◌≡◌, ◌⊎◌, set, replicate}
use Rattle.std.proofs.Math.Path.{refl}
use Rattle.std.proofs.Common.{ap, sym, ◌∙◌, ⊎_elim, inl, inr}
use mathlib.Core.List.{List, [], ◌∷◌, ◌++◌, append-nil, append_assoc}
use native.Mathlib.Omega.{arith}
use Rattle.std.proofs.Math.Decide.{dec_le}
use Rattle.std.proofs.Math.ListN.{length, take, drop, length-append, length-drop, drop_of_length-le}
use Rattle.std.proofs.lemmas.List.{length-replicate}
use Rattle.std.proofs.Math.Seq.{take-nil, take_all, take_at, drop_at, take-append-add, take-append-le, drop-drop, drop-nil, take-take, length-take-le}
use borrow.Rule.Slice.PartMut.{put_mid, mid_of}
use Rattle.loops.specs.Written.{written}
use Rattle.loops.specs.Zero.{zeros}

-- there is no room at all
pub written_empty : (l e : List ℕ) → length e ≤ 0 → e ≡ written l e
unfolding written
written_empty l [] h = sym (drop_of_length-le [] {i = length l} (omega arith))
written_empty l (x ∷ e) h = absurd (omega arith)

-- one number, where there is room
pub written_one : (x : ℕ) (e : List ℕ) → 0 < length e → set e 0 x ≡ written (x ∷ []) e
unfolding written
written_one x [] h = absurd (omega arith)
written_one x (y ∷ e) h = rw (take-nil (length e))

-- the part from s to the end, as it is lent and as it comes back
tail_put : (s : ℕ) (x y : List ℕ) → put_mid s (length x - s) x y ≡ take s x ++ y
tail_put s x y =
    let h : length (drop s x) ≤ length x - s = simp length-drop (omega arith) in
    rw (drop_of_length-le (drop s x) h, append-nil)

tail_mid : (s : ℕ) (x : List ℕ) → mid_of s (length x - s) x ≡ drop s x
tail_mid s x = take_all (length x - s) (drop s x) (simp length-drop (omega arith))

module _ (l r e : List ℕ) where
  -- l fits, and the part begins where l ends
  two_fit : length l ≤ length e → take (length l) (written l e) ++ written r (drop (length l) (written l e)) ≡ written (l ++ r) e
  unfolding written
  two_fit h =
      let n : length e ≡ length l + (length e - length l) = omega arith in
      rw (
        take_all (length e) l h,
        take_at l (drop (length l) e) (length l) refl,
        drop_at l (drop (length l) e) (length l) refl,
        length-drop,
        drop-drop,
        length-append,
        ← append_assoc,
      )
      (ap (λ (z : List ℕ). z ++ drop (length l + length r) e) (sym (ap (λ (k : ℕ). take k (l ++ r)) n ∙ take-append-add l r (length e - length l))))

  -- l fills the buffer, and nothing is left of it
  two_full : length e ≤ length l → take (length e) (written l e) ++ written r (drop (length e) (written l e)) ≡ written (l ++ r) e
  unfolding written
  two_full h =
      let m : length (l ++ r) ≡ length l + length r = length-append l r in
      let a : drop (length l) e ≡ [] = drop_of_length-le e h in
      let b : drop (length (l ++ r)) e ≡ [] = drop_of_length-le e {i = length (l ++ r)} (omega arith) in
      let t : length (take (length e) l) ≡ length e = length-take-le (length e) l h in
      let d : drop (length e) (take (length e) l) ≡ [] = drop_of_length-le (take (length e) l) {i = length e} (omega arith) in
      rw (a, b, append-nil, d, drop-nil (length r), append-nil, append-nil, take-take (length e) (length e) l (omega arith), take-append-le (length e) l r h)

either : {m n : ℕ} → Dec (m ≤ n) → (m ≤ n) ⊎ (n ≤ m)
either (yes h) = inl h
either (no h) = inr (omega arith)

-- x is e with l written over its front, and y the part of x from s on with r written over its front, where s is the lesser of l's length
-- and the buffer's: y put back into x is e with l and then r written over its front
pub written_two : (l r e x y : List ℕ) (s : ℕ) → x ≡ written l e → y ≡ written r (mid_of s (length x - s) x)
    → (length l ≤ length e → s ≡ length l) → (length e ≤ length l → s ≡ length e)
    → put_mid s (length x - s) x y ≡ written (l ++ r) e
written_two l r e x y s ex ey lo hi =
    tail_put s x y ∙ rw (ey, tail_mid, ex)
    (⊎_elim (λ h. rw (lo h) (two_fit l r e h)) (λ h. rw (hi h) (two_full l r e h)) (either (dec_le (length l) (length e))))

drop-replicate : (n k x : ℕ) → drop n (replicate k x) ≡ replicate (k - n) x
drop-replicate zero k x = let e : k ≡ k - 0 = omega arith in ap (λ (m : ℕ). replicate m x) e
drop-replicate (suc n) zero x = let e : 0 ≡ 0 - suc n = omega arith in ap (λ (m : ℕ). replicate m x) e
drop-replicate (suc n) (suc k) x = let e : k - n ≡ suc k - suc n = omega arith in drop-replicate n k x ∙ ap (λ (m : ℕ). replicate m x) e

-- over zeros, where there is room: l and then zeros
pub written-zeros : (l e : List ℕ) → length l ≤ length e → written l (zeros e) ≡ l ++ replicate (length e - length l) 0
unfolding written
written-zeros l e h = rw (length-replicate, take_all (length e) l h, drop-replicate)
