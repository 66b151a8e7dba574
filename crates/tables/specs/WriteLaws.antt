-- Reading back what was written, and what a write leaves as it was.
use Rattle.std.specs.Prelude.{ℕ, zero, suc, ◌+◌, ◌*◌, ◌/◌, ◌%◌, ◌≤◌, ◌<◌, ◌≡◌, refl, List, ◌⊎◌, get_or, set}
use Rattle.std.proofs.Common.{ap, sym, ◌∙◌, inl, inr, get_or-set_other, eq-eqb, ne_eqb}
use native.Mathlib.Omega.{arith}
use Rattle.std.proofs.Math.ListN.{length, length-set}
use Rattle.std.proofs.Math.Seq.{get_or-set_same}
use Rattle.kinds.specs.Limits.{no_pivot}
use Rattle.kinds.specs.declared.Label.{Label}
use Rattle.tables.specs.Format.{format_mark, header_bytes, no_pivot_byte}
use Rattle.tables.specs.File.{two_at, stops_of, count_of, start_of, place_of, pivot_read, label_at}
use Rattle.tables.specs.Write.{put_two, put_header, put_count, pivot_byte, put_hub, put_dep, put_arr, put_pivot, put_label, Outside, Writable}

pub outside_both : {a b c : List ℕ} {lo₁ hi₁ lo₂ hi₂ : ℕ} (lo hi : ℕ) → lo ≤ lo₁ → lo ≤ lo₂ → hi₁ ≤ hi → hi₂ ≤ hi →
    Outside a b lo₁ hi₁ → Outside b c lo₂ hi₂ → Outside a c lo hi
outside_both lo hi h₁ h₂ h₃ h₄ o p =
    record {
      long = p.long ∙ o.long;
      before = λ j lt. p.before j (omega arith) ∙ o.before j (omega arith);
      behind = λ j le. p.behind j (omega arith) ∙ o.behind j (omega arith);
    }

outside_set : (b : List ℕ) (i x : ℕ) → Outside b (set b i x) i (i + 1)
outside_set b i x =
    record {
      long = length-set b i x;
      before = λ j lt. get_or-set_other b i j x 0 (λ e. omega arith);
      behind = λ j le. get_or-set_other b i j x 0 (λ e. omega arith);
    }

-- ---- what stands outside is the same

label_same : (b c : List ℕ) (k : ℕ) → stops_of c ≡ stops_of b →
    ((j : ℕ) → place_of (stops_of b) k ≤ j → j < place_of (stops_of b) (k + 1) → get_or c j 0 ≡ get_or b j 0) → label_at c k ≡ label_at b k
unfolding label_at
label_same b c k e f =
    let p : ℕ = place_of (stops_of b) k in
    rw (
      e,
      f (place_of (stops_of b) k) (omega arith) (omega arith),
      f (place_of (stops_of b) k + 1) (omega arith) (omega arith),
      f (place_of (stops_of b) k + 1 + 1) (omega arith) (omega arith),
      f (place_of (stops_of b) k + 3) (omega arith) (omega arith),
      f (place_of (stops_of b) k + 3 + 1) (omega arith) (omega arith),
      f (place_of (stops_of b) k + 5) (omega arith) (omega arith),
    )

module _ {b c : List ℕ} {lo hi : ℕ} (o : Outside b c lo hi) where
  pub count_before : (s : ℕ) → header_bytes + 2 * s + 2 ≤ lo → count_of c s ≡ count_of b s
  count_before s le = omega (arith, o.before (header_bytes + 2 * s) (omega arith), o.before (header_bytes + 2 * s + 1) (omega arith))

  pub label_before : (k : ℕ) → place_of (stops_of b) (k + 1) ≤ lo → label_at c k ≡ label_at b k
  label_before k le = label_same b c k (o.before 1 (omega arith)) (λ j le' lt. o.before j (omega arith))

  pub label_behind : (k : ℕ) → 1 < lo → hi ≤ place_of (stops_of b) k → label_at c k ≡ label_at b k
  label_behind k lt le = label_same b c k (o.before 1 lt) (λ j le' m. o.behind j (omega arith))

-- ---- two bytes

module _ (b : List ℕ) (i x : ℕ) where
  pub outside_two : Outside b (put_two b i x) i (i + 2)
  outside_two =
      outside_both i (i + 2) (omega arith) (omega arith) (omega arith) (omega arith) (outside_set b i (x % 256))
      (outside_set (set b i (x % 256)) (i + 1) (x / 256))

  module _ (fits : i + 1 < length b) where
    two_low : get_or (put_two b i x) i 0 ≡ x % 256
    two_low = get_or-set_other (set b i (x % 256)) (i + 1) i (x / 256) 0 (λ e. omega arith) ∙ get_or-set_same b i (x % 256) 0 (omega arith)

    two_high : get_or (put_two b i x) (i + 1) 0 ≡ x / 256
    two_high = get_or-set_same (set b i (x % 256)) (i + 1) (x / 256) 0 (simp length-set fits)

    pub two_back : two_at (put_two b i x) i ≡ x
    two_back = omega (arith, two_low, two_high)

-- ---- the header and the counts

module _ (b : List ℕ) (n : ℕ) where
  pub outside_header : Outside b (put_header b n) 0 header_bytes
  outside_header =
      outside_both 0 header_bytes (omega arith) (omega arith) (omega arith) (omega arith) (outside_set b 0 format_mark) (outside_set (set b 0 format_mark) 1 n)

  module _ (fits : header_bytes ≤ length b) where
    pub header_mark : get_or (put_header b n) 0 0 ≡ format_mark
    header_mark = get_or-set_other (set b 0 format_mark) 1 0 n 0 (λ e. omega arith) ∙ get_or-set_same b 0 format_mark 0 (omega arith)

    pub header_stops : stops_of (put_header b n) ≡ n
    header_stops = get_or-set_same (set b 0 format_mark) 1 n 0 (simp length-set (omega arith))

module _ (b : List ℕ) (s x : ℕ) where
  pub outside_count : Outside b (put_count b s x) (header_bytes + 2 * s) (header_bytes + 2 * s + 2)
  outside_count = outside_two b (header_bytes + 2 * s) x

  pub count_back : header_bytes + 2 * s + 2 ≤ length b → count_of (put_count b s x) s ≡ x
  count_back fits = two_back b (header_bytes + 2 * s) x (omega arith)

-- ---- a label

pivot_back : (p : ℕ) → (p ≡ no_pivot) ⊎ (p < no_pivot_byte) → pivot_read (pivot_byte p) ≡ p
pivot_back p (inl e) = rw (eq-eqb p no_pivot e) (sym e)
pivot_back p (inr lt) =
    let e : p % 256 ≡ p = omega arith in
    rw (ne_eqb p no_pivot (λ h. omega arith), e, ne_eqb p no_pivot_byte (λ h. omega arith))

label_is : (c : List ℕ) (n k : ℕ) (l : Label) → stops_of c ≡ n → get_or c (place_of n k) 0 ≡ l.hub → two_at c (place_of n k + 1) ≡ l.dep →
    two_at c (place_of n k + 3) ≡ l.arr → pivot_read (get_or c (place_of n k + 5) 0) ≡ l.pivot → label_at c k ≡ l
unfolding label_at
label_is c n k l e h d a p = rw (e, h, d, a, p)

two_before : {b c : List ℕ} {lo hi : ℕ} → Outside b c lo hi → (i : ℕ) → i + 2 ≤ lo → two_at c i ≡ two_at b i
two_before o i le = omega (arith, o.before i (omega arith), o.before (i + 1) (omega arith))

module _ (b : List ℕ) (p h d a q : ℕ) where
  long_three : length (put_dep b p h d) ≡ length b
  unfolding put_hub put_dep
  long_three = (outside_two (put_hub b p h) (p + 1) d).long ∙ length-set b p h

  long_five : length (put_arr b p h d a) ≡ length b
  unfolding put_arr
  long_five = (outside_two (put_dep b p h d) (p + 3) a).long ∙ long_three

  outside_six : Outside b (put_pivot b p h d a q) p (p + 6)
  unfolding put_hub put_dep put_arr put_pivot
  outside_six =
      outside_both p (p + 6) (omega arith) (omega arith) (omega arith) (omega arith)
      (outside_both p (p + 5) (omega arith) (omega arith) (omega arith) (omega arith)
      (outside_both p (p + 3) (omega arith) (omega arith) (omega arith) (omega arith) (outside_set b p h) (outside_two (put_hub b p h) (p + 1) d))
      (outside_two (put_dep b p h d) (p + 3) a)) (outside_set (put_arr b p h d a) (p + 5) q)

  module _ (fits : p + 6 ≤ length b) where
    six_hub : get_or (put_pivot b p h d a q) p 0 ≡ h
    unfolding put_hub put_dep put_arr put_pivot
    six_hub =
        (outside_set (put_arr b p h d a) (p + 5) q).before p (omega arith) ∙ (outside_two (put_dep b p h d) (p + 3) a).before p (omega arith) ∙
        (outside_two (put_hub b p h) (p + 1) d).before p (omega arith) ∙
        get_or-set_same b p h 0 (omega arith)

    six_dep : two_at (put_pivot b p h d a q) (p + 1) ≡ d
    unfolding put_hub put_dep put_arr put_pivot
    six_dep =
        two_before (outside_set (put_arr b p h d a) (p + 5) q) (p + 1) (omega arith) ∙
        two_before (outside_two (put_dep b p h d) (p + 3) a) (p + 1) (omega arith) ∙
        two_back (put_hub b p h) (p + 1) d (omega (arith, length-set b p h))

    six_arr : two_at (put_pivot b p h d a q) (p + 3) ≡ a
    unfolding put_hub put_dep put_arr put_pivot
    six_arr = two_before (outside_set (put_arr b p h d a) (p + 5) q) (p + 3) (omega arith) ∙ two_back (put_dep b p h d) (p + 3) a (omega (arith, long_three))

    six_pivot : get_or (put_pivot b p h d a q) (p + 5) 0 ≡ q
    unfolding put_pivot
    six_pivot = get_or-set_same (put_arr b p h d a) (p + 5) q 0 (omega (arith, long_five))

module _ (b : List ℕ) (n k : ℕ) (l : Label) where
  pub outside_label : Outside b (put_label b n k l) (place_of n k) (place_of n (k + 1))
  unfolding put_label put_hub put_dep put_arr put_pivot
  outside_label =
      let o = outside_six b (place_of n k) (l.hub % 256) l.dep l.arr (pivot_byte l.pivot) in
      record { long = o.long; before = o.before; behind = λ j le. o.behind j (omega arith) }

  pub label_back : stops_of b ≡ n → place_of n (k + 1) ≤ length b → Writable l → label_at (put_label b n k l) k ≡ l
  unfolding put_label put_hub put_dep put_arr put_pivot
  label_back e fits w =
      let f : place_of n k + 6 ≤ length b = omega arith in
      label_is (put_label b n k l) n k l (outside_label.before 1 (omega arith) ∙ e)
      (six_hub b (place_of n k) (l.hub % 256) l.dep l.arr (pivot_byte l.pivot) f ∙ hub l.hub w.hub)
      (six_dep b (place_of n k) (l.hub % 256) l.dep l.arr (pivot_byte l.pivot) f)
      (six_arr b (place_of n k) (l.hub % 256) l.dep l.arr (pivot_byte l.pivot) f)
      (ap pivot_read (six_pivot b (place_of n k) (l.hub % 256) l.dep l.arr (pivot_byte l.pivot) f) ∙ pivot_back l.pivot w.pivot)
    where
      hub : (h : ℕ) → h < 256 → h % 256 ≡ h
      hub h lt = omega arith

-- sets whose counts are the same begin at the same labels
pub start_same : (b c : List ℕ) (m : ℕ) → ((s : ℕ) → s < m → count_of c s ≡ count_of b s) → start_of c m ≡ start_of b m
unfolding start_of
start_same b c zero f = refl
start_same b c (suc m) f = omega (arith, start_same b c m (λ s lt. f s (omega arith)), f m (omega arith))
