-- The lines of a text, by their number.
use Rattle.std.specs.Prelude.{ℕ, zero, suc, ◌-◌, ◌≤◌, ◌≡◌, List, [], ◌∷◌, Bool, true, false, cond, length, drop, eqb}
use Rattle.words.specs.Words.{lf}

-- up to the first LF, and from after it on; all of it, and nothing, where there is none
abbrev pub head_line : List ℕ → List ℕ
head_line [] = []
head_line (x ∷ xs) = cond (eqb x lf) [] (x ∷ head_line xs)

abbrev pub next_lines : List ℕ → List ℕ
next_lines [] = []
next_lines (x ∷ xs) = cond (eqb x lf) xs (next_lines xs)

-- line n, counted from 0; nothing where there is no such line
abbrev pub text_line : List ℕ → ℕ → List ℕ
text_line s zero = head_line s
text_line s (suc n) = text_line (next_lines s) n

-- no line has more than `most` bytes, and the first one no more than k
abbrev pub short_b : ℕ → ℕ → List ℕ → Bool
short_b most k [] = true
short_b most zero (x ∷ xs) = cond (eqb x lf) (short_b most most xs) false
short_b most (suc k) (x ∷ xs) = cond (eqb x lf) (short_b most most xs) (short_b most k xs)

-- line n begins at place r
pub record LineFrom (s : List ℕ) (n r : ℕ) : Type 0 where
  pub within : r ≤ length s
  pub is : head_line (drop r s) ≡ text_line s n

-- the loop that looks for line n: what is still to go is what was asked
pub record SeekingLine (s : List ℕ) (n from k : ℕ) : Type 0 where
  pub within : from ≤ length s
  pub high : k ≤ n
  pub is : text_line (drop from s) (n - k) ≡ text_line s n
