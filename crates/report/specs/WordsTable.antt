-- The words of the refusals as the code holds them: a line each, in the order of their numbers.
use Rattle.std.specs.Prelude.{ℕ, suc, List, [], ◌∷◌, ◌++◌, Bool, true, false, cond, eqb}
use Rattle.words.specs.Bytes.{bytes}
use Rattle.words.specs.Words.{lf}
use Rattle.report.specs.Words.{Meaning, meanings}

abbrev pub lined : List Meaning → List ℕ
lined [] = []
lined (m ∷ ms) = bytes m.words ++ (lf ∷ lined ms)

-- the numbers begin with 1: line 0 is empty
abbrev pub words_table : List ℕ
words_table = lf ∷ lined meanings

-- no LF stands in a text
abbrev pub plain_b : List ℕ → Bool
plain_b [] = true
plain_b (x ∷ xs) = cond (eqb x lf) false (plain_b xs)

-- the numbers go up from k without a gap, and each text is plain
abbrev pub tabled_b : ℕ → List Meaning → Bool
tabled_b k [] = true
tabled_b k (m ∷ ms) = cond (eqb m.number k) (cond (plain_b (bytes m.words)) (tabled_b (suc k) ms) false) false
