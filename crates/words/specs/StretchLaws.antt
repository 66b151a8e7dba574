-- A stretch of n bytes, taken as a slice of its own: what std's tests of it say of the text's bytes.
use Rattle.std.specs.Prelude.{ℕ, ◌+◌, ◌≤◌, ◌<◌, ◌≡◌, List, Bool, true, length, get_or}
use Rattle.std.specs.Bool.{Decides}
use Rattle.std.specs.List.{between, list_all, AllPass}
use Rattle.std.specs.Cmp.Lexicographic.{pointwise}
use Rattle.std.proofs.Common.{ap, sym, ◌∙◌, arith, eqb, ext_get_or}
use Rattle.std.proofs.lemmas.Bool.Decides.{Decides-eqb, Decides-like, same_from_decides}
use Rattle.std.proofs.lemmas.Grind.{get_or_default_zero}
use Rattle.std.proofs.lemmas.List.Edits.{length-between, get_or-between}
use Rattle.std.proofs.lemmas.List.Sums.{AllPass-from_list_all, list_all-from_AllPass}
use Rattle.std.proofs.lemmas.Slice.Eq.{slice_eq-Decides}
use Rattle.loops.specs.Every.{all_b, same_b}
use Rattle.loops.specs.EveryLaws.{all_at, all_of, same_at, same_of}

module _ (s : List ℕ) (a n : ℕ) (fits : a + n ≤ length s) where
  stretch_length : length (between a (a + n) s) ≡ n
  stretch_length = length-between s a (a + n) fits ∙ omega arith

  stretch_at : (k : ℕ) → k < n → get_or (between a (a + n) s) k 0 ≡ get_or s (a + k) 0
  stretch_at k lt = get_or-between s a (a + n) k 0 (omega arith)

  -- each byte passes
  pub stretch_all : (p : ℕ → Bool) → list_all p (between a (a + n) s) ≡ all_b (λ k. p (get_or s (a + k) 0)) n
  stretch_all p =
      same_from_decides (list_all p xs) (all_b q n) (Decides-like (list_all p xs) down up each) (λ e k l. all_at q n k e l, all_of q n)
    where
      xs : List ℕ
      xs = between a (a + n) s

      q : ℕ → Bool
      q k = p (get_or s (a + k) 0)

      each : Decides (list_all p xs) (AllPass p xs)
      each = (AllPass-from_list_all p xs, list_all-from_AllPass p xs)

      down : AllPass p xs → (k : ℕ) → k < n → q k ≡ true
      down h k l = ap p (sym (stretch_at k l)) ∙ h k 0 (omega (arith, stretch_length))

      up : ((k : ℕ) → k < n → q k ≡ true) → AllPass p xs
      up h k d l =
          let m : k < n = omega (arith, stretch_length) in
          ap p (get_or_default_zero xs k d l ∙ stretch_at k m) ∙ h k m

-- the two are equal
pub stretch_same : (s : List ℕ) (a : ℕ) (t : List ℕ) (b n : ℕ) → a + n ≤ length s → b + n ≤ length t →
    (r : Bool) → r ≡ pointwise eqb (between a (a + n) s) (between b (b + n) t) → r ≡ same_b s a t b n
stretch_same s a t b n fs ft r e =
    same_from_decides r (same_b s a t b n) (Decides-like r down up (slice_eq-Decides Decides-eqb xs ys r e)) (same_at s a t b n, same_of s a t b n)
  where
    xs : List ℕ
    xs = between a (a + n) s

    ys : List ℕ
    ys = between b (b + n) t

    down : xs ≡ ys → (k : ℕ) → k < n → get_or s (a + k) 0 ≡ get_or t (b + k) 0
    down f k l = sym (stretch_at s a n fs k l) ∙ ap (λ (z : List ℕ). get_or z k 0) f ∙ stretch_at t b n ft k l

    up : ((k : ℕ) → k < n → get_or s (a + k) 0 ≡ get_or t (b + k) 0) → xs ≡ ys
    up h = ext_get_or 0 xs ys (stretch_length s a n fs ∙ sym (stretch_length t b n ft)) at
      where
        at : (k : ℕ) → k < length xs → get_or xs k 0 ≡ get_or ys k 0
        at k l =
            let m : k < n = omega (arith, stretch_length s a n fs) in
            stretch_at s a n fs k m ∙ h k m ∙ sym (stretch_at t b n ft k m)
