-- Laws of the lines of a text: where a line ends, and the turns of the loop that looks for one.
use Rattle.std.specs.Prelude.{ℕ, zero, suc, ◌+◌, ◌-◌, ◌≤◌, ◌<◌, ◌≡◌, refl, List, [], ◌∷◌, Bool, true, false, cond, length, get_or, take, drop, eqb}
use Rattle.std.proofs.Common.{ap, sym, ◌∙◌, true≢false, arith, add-one, drop_of_length-le, drop-cons, drop-drop, eq-eqb, ne_eqb}
use Rattle.std.proofs.Math.Decide.{ℕ_discrete}
use Rattle.loops.specs.ChainLaws.{stays}
use Rattle.words.specs.Words.{lf, seek}
use Rattle.words.specs.WordsLaws.{seek_here, seek_more, seek_end}
use Rattle.report.specs.TextLines.{head_line, next_lines, text_line, short_b, LineFrom, SeekingLine}

pub differ : ◌≡◌ {A = Bool} false true → ⊥
differ e = true≢false (sym e)

head_take : (xs : List ℕ) → take (length (head_line xs)) xs ≡ head_line xs
head_take [] = refl
head_take (x ∷ xs) = go (eqb x lf) (head_take xs)
  where
    go : (b : Bool) → take (length (head_line xs)) xs ≡ head_line xs →
        take (length (cond b [] (x ∷ head_line xs))) (x ∷ xs) ≡ cond b [] (x ∷ head_line xs)
    go true h = refl
    go false h = ap (λ (r : List ℕ). x ∷ r) h

next-drop : (xs : List ℕ) → drop (suc (length (head_line xs))) xs ≡ next_lines xs
next-drop [] = refl
next-drop (x ∷ xs) = go (eqb x lf) (next-drop xs)
  where
    go : (b : Bool) → drop (suc (length (head_line xs))) xs ≡ next_lines xs →
        drop (length (cond b [] (x ∷ head_line xs))) xs ≡ cond b xs (next_lines xs)
    go true h = refl
    go false h = h

pub no_line_lem : (n : ℕ) → text_line [] n ≡ []
no_line_lem zero = refl
no_line_lem (suc n) = no_line_lem n

-- lines that pass the test are short
module _ (most : ℕ) where
  short_head : (k : ℕ) (s : List ℕ) → short_b most k s ≡ true → length (head_line s) ≤ k
  short_head k [] h = omega arith
  short_head zero (x ∷ xs) h = rw (stays (eqb x lf) h differ).0 (omega arith)
  short_head (suc k) (x ∷ xs) h = go (eqb x lf) h (short_head k xs)
    where
      go : (b : Bool) → cond b (short_b most most xs) (short_b most k xs) ≡ true → (short_b most k xs ≡ true → length (head_line xs) ≤ k) →
          length (cond b [] (x ∷ head_line xs)) ≤ suc k
      go true h ih = omega arith
      go false h ih = omega (arith, ih h)

  short_next : (k : ℕ) (s : List ℕ) → short_b most k s ≡ true → short_b most most (next_lines s) ≡ true
  short_next k [] h = refl
  short_next zero (x ∷ xs) h = let z = stays (eqb x lf) h differ in rw z.0 z.1
  short_next (suc k) (x ∷ xs) h = go (eqb x lf) h (short_next k xs)
    where
      go : (b : Bool) → cond b (short_b most most xs) (short_b most k xs) ≡ true → (short_b most k xs ≡ true → short_b most most (next_lines xs) ≡ true) →
          short_b most most (cond b xs (next_lines xs)) ≡ true
      go true h ih = h
      go false h ih = ih h

  pub short_line : (n : ℕ) (s : List ℕ) → short_b most most s ≡ true → length (text_line s n) ≤ most
  short_line zero s h = short_head most s h
  short_line (suc n) s h = short_line n (next_lines s) (short_next most s h)

-- a search for LF ends where the line does
module _ (s : List ℕ) where
  gone : (a : ℕ) → length s ≤ a → drop a s ≡ []
  gone a h = drop_of_length-le s h

  pub line_end_lem : (n a : ℕ) → a + n ≡ length s → seek lf s a (length s) ≡ a + length (head_line (drop a s))
  line_end_lem zero a h =
      let e : drop a s ≡ [] = gone a (omega arith) in
      rw (seek_end lf s a (length s) (omega arith), e) (omega arith)
  line_end_lem (suc n) a h = go (ℕ_discrete (get_or s a 0) lf) (line_end_lem n (a + 1) (omega arith))
    where
      here : drop a s ≡ get_or s a 0 ∷ drop (suc a) s
      here = drop-cons s a 0 (omega arith)

      go : Dec (get_or s a 0 ≡ lf) → seek lf s (a + 1) (length s) ≡ a + 1 + length (head_line (drop (a + 1) s)) →
          seek lf s a (length s) ≡ a + length (head_line (drop a s))
      go (yes e) ih = rw (seek_here lf s a (length s) (omega arith) e, here, eq-eqb _ _ e) (omega arith)
      go (no e) ih = let i = rw add-one at ih in rw (seek_more lf s a (length s) (omega arith) e, here, ne_eqb _ _ e, add-one, i) (omega arith)

module _ {s : List ℕ} {n : ℕ} where
  pub seeking_none : SeekingLine s n 0 0
  seeking_none = let e : n - 0 ≡ n = omega arith in record { within = omega arith; high = omega arith; is = rw e }

  module _ {from k : ℕ} (w : SeekingLine s n from k) (lt : k < n) {end : ℕ} (e : end ≡ seek lf s from (length s)) where
    found : end ≡ from + length (head_line (drop from s))
    found = e ∙ line_end_lem s (length s - from) from (omega (arith, w.within))

    next : drop (end + 1) s ≡ next_lines (drop from s)
    next =
        let q : end + 1 ≡ from + suc (length (head_line (drop from s))) = omega (arith, found) in
        rw (q, ← drop-drop (suc (length (head_line (drop from s)))) from s) (next-drop (drop from s))

    left : text_line (drop (end + 1) s) (n - (k + 1)) ≡ text_line s n
    left =
        let q : n - k ≡ suc (n - (k + 1)) = omega arith in
        let i = rw q at w.is in
        rw next i

    pub seeking_more : end < length s → SeekingLine s n (end + 1) (k + 1)
    seeking_more h = record { within = omega arith; high = omega arith; is = left }

    -- the text ends before line n
    pub seeking_short : end ≡ length s → LineFrom s n end
    seeking_short h =
        let i = rw (gone s (end + 1) (omega arith), no_line_lem (n - (k + 1))) at left in
        record { within = omega arith; is = rw (gone s end (omega arith)) i }

  pub seeking_end : {from k : ℕ} → SeekingLine s n from k → n ≤ k → LineFrom s n from
  seeking_end {from} {k} w h =
      let q : n - k ≡ 0 = omega arith in
      record { within = w.within; is = rw q at w.is }

  -- the line is what stands from its place up to its end
  module _ {r end : ℕ} (l : LineFrom s n r) (e : end ≡ seek lf s r (length s)) where
    line_ends : end ≡ r + length (head_line (drop r s))
    line_ends = e ∙ line_end_lem s (length s - r) r (omega (arith, l.within))

    pub line_long : end - r ≡ length (text_line s n)
    line_long = omega (arith, line_ends, ap length l.is)

    pub line_part : take (end - r) (drop r s) ≡ text_line s n
    line_part =
        let q : end - r ≡ length (head_line (drop r s)) = omega (arith, line_ends) in
        rw q (head_take (drop r s)) ∙ l.is
