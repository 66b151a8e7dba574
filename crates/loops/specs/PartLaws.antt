-- A part of a lent list, from one place to its end, as it is lent and as it comes back.
use Rattle.std.specs.Prelude.{ℕ, ◌+◌, ◌-◌, ◌≤◌, ◌<◌, ◌≡◌, List, ◌++◌, length, get_or, take, drop}
use Rattle.std.proofs.Common.{sym, ap, ◌∙◌, append-nil, arith, length-drop, drop_of_length-le, take_all, length-take-le, get_or-take, get_or-drop}
use Rattle.std.proofs.Common.{get_or-append-add}
use borrow.Rule.Slice.PartMut.{put_mid, mid_of, take_put}

module _ (s : ℕ) (x : List ℕ) where
  tail_mid : mid_of s (length x - s) x ≡ drop s x
  tail_mid = take_all (length x - s) (drop s x) (simp length-drop (omega arith))

  pub mid_at : (p : ℕ) → get_or (mid_of s (length x - s) x) p 0 ≡ get_or x (s + p) 0
  mid_at p = ap (λ l. get_or l p 0) tail_mid ∙ get_or-drop s x p 0

  pub mid_long : s ≤ length x → s + length (mid_of s (length x - s) x) ≡ length x
  mid_long h = omega (arith, ap length tail_mid, length-drop s x)

  module _ (y : List ℕ) (h : s ≤ length x) where
    tail_put : put_mid s (length x - s) x y ≡ take s x ++ y
    tail_put =
        let h : length (drop s x) ≤ length x - s = simp length-drop (omega arith) in
        rw (drop_of_length-le (drop s x) h, append-nil)

    pub put_before : (p : ℕ) → p < s → get_or (put_mid s (length x - s) x y) p 0 ≡ get_or x p 0
    put_before p lt =
        sym (get_or-take s (put_mid s (length x - s) x y) p 0 lt) ∙ ap (λ l. get_or l p 0) (take_put s (length x - s) x y h) ∙ get_or-take s x p 0 lt

    pub put_at : (p : ℕ) → get_or (put_mid s (length x - s) x y) (s + p) 0 ≡ get_or y p 0
    put_at p =
        ap (λ l. get_or l (s + p) 0) tail_put ∙ ap (λ (m : ℕ). get_or (take s x ++ y) (m + p) 0) (sym (length-take-le s x h)) ∙ get_or-append-add (take s x) y
        p 0
