-- Laws of the words: line n of the table is the words of number n.
use Rattle.std.specs.Prelude.{ℕ, zero, suc, ◌+◌, ◌<◌, ◌≡◌, refl, List, [], ◌∷◌, ◌++◌, true, false, cond, eqb}
use Rattle.std.proofs.Common.{ap, sym, ◌∙◌, arith, eqb-true, eq-eqb, ne_eqb}
use Rattle.loops.specs.ChainLaws.{past, stays}
use Rattle.words.specs.Bytes.{bytes}
use Rattle.words.specs.Words.{lf}
use Rattle.report.specs.TextLines.{head_line, next_lines, text_line}
use Rattle.report.specs.TextLinesLaws.{differ, no_line_lem}
use Rattle.report.specs.Words.{Meaning, meanings, words_in, words_of}
use Rattle.report.specs.WordsTable.{lined, words_table, plain_b, tabled_b}

-- tests that passed, of a table: its first number, its first text, the rest
module _ (m : Meaning) (ms : List Meaning) (k : ℕ) (h : tabled_b k (m ∷ ms) ≡ true) where
  plain_on : cond (plain_b (bytes m.words)) (tabled_b (suc k) ms) false ≡ true
  plain_on = (stays (eqb m.number k) h differ).1

  first_number : m.number ≡ k
  first_number = eqb-true _ _ (stays (eqb m.number k) h differ).0

  first_plain : plain_b (bytes m.words) ≡ true
  first_plain = (stays (plain_b (bytes m.words)) plain_on differ).0

  others : tabled_b (suc k) ms ≡ true
  others = (stays (plain_b (bytes m.words)) plain_on differ).1

-- a plain text is the first line of what it begins, and the rest stands in the next lines
plain_head : (t r : List ℕ) → plain_b t ≡ true → head_line (t ++ (lf ∷ r)) ≡ t
plain_head [] r h = refl
plain_head (x ∷ t) r h = let z = past (eqb x lf) h differ in rw (z.0, plain_head t r z.1)

plain_next : (t r : List ℕ) → plain_b t ≡ true → next_lines (t ++ (lf ∷ r)) ≡ r
plain_next [] r h = refl
plain_next (x ∷ t) r h = let z = past (eqb x lf) h differ in rw (z.0, plain_next t r z.1)

-- the numbers of a table are no lower than its first
low_none : (ms : List Meaning) (k n : ℕ) → tabled_b k ms ≡ true → n < k → words_in ms n ≡ []
low_none [] k n h l = refl
low_none (m ∷ ms) k n h l =
    rw (ne_eqb n m.number (λ q. omega (arith, first_number m ms k h))) (low_none ms (suc k) n (others m ms k h) (omega arith))

line_words : (ms : List Meaning) (k n : ℕ) → tabled_b k ms ≡ true → text_line (lined ms) n ≡ words_in ms (k + n)
line_words [] k n h = no_line_lem n
line_words (m ∷ ms) k zero h =
    rw (eq-eqb (k + 0) m.number (omega (arith, first_number m ms k h))) (plain_head (bytes m.words) (lined ms) (first_plain m ms k h))
line_words (m ∷ ms) k (suc n) h =
    let e : k + suc n ≡ suc k + n = omega arith in
    rw (ne_eqb (k + suc n) m.number (λ q. omega (arith, first_number m ms k h)), plain_next (bytes m.words) (lined ms) (first_plain m ms k h), e)
    (line_words ms (suc k) n (others m ms k h))

-- the table that a reader believes is one, by computing
tabled : tabled_b 1 meanings ≡ true
tabled = refl

pub table_words : (n : ℕ) → text_line words_table n ≡ words_of n
unfolding words_of
table_words zero = sym (low_none meanings 1 0 tabled (omega arith))
table_words (suc n) = let e : 1 + n ≡ suc n = omega arith in line_words meanings 1 n tabled ∙ ap (words_in meanings) e
