-- Which stop has a code. The codes are "numbers that say where each code starts and how long it is", two a stop, in rank order.
use Rattle.std.specs.Prelude.{ℕ, zero, suc, ◌+◌, ◌*◌, ◌≤◌, ◌<◌, List, [], ◌∷◌, Bool, false, cond, length, get_or, eqb}
use Rattle.loops.specs.Every.{same_b}
use Rattle.loops.specs.Put.{put_from}
use Rattle.kinds.specs.Kinds.{CodeIn}
use Rattle.kinds.specs.declared.Code.{Code}

abbrev pub code_start : List ℕ → ℕ → ℕ
code_start codes j = get_or codes (2 * j) 0

abbrev pub code_length : List ℕ → ℕ → ℕ
code_length codes j = get_or codes (2 * j + 1) 0

-- where the code of stop j stands
abbrev pub code_at : List ℕ → ℕ → Code
code_at codes j = record { start = code_start codes j; length = code_length codes j }

-- the code of stop j is in the list and stands in the text s
pub record Named (s codes : List ℕ) (j : ℕ) : Type 0 where
  pub listed : 2 * j + 2 ≤ length codes
  pub code : CodeIn s (code_at codes j)

-- stop j's code, which stands in the text s, is the n bytes of t from a on: as long as they, and the same bytes
unfoldable pub has_code : List ℕ → List ℕ → List ℕ → ℕ → ℕ → ℕ → Bool
has_code s codes t a n j = cond (eqb (code_length codes j) n) (same_b s (code_start codes j) t a n) false

-- the number of the stop with that code, among the first k (no two have one code, so there is one at most); else `none`
unfoldable pub stop_in : List ℕ → List ℕ → List ℕ → ℕ → ℕ → ℕ → ℕ → ℕ
stop_in s codes t a n none zero = none
stop_in s codes t a n none (suc k) = cond (has_code s codes t a n k) k (stop_in s codes t a n none k)

-- the same among all stops; the stop count, which is no stop's number, where no stop has the code
unfoldable pub stop_named : List ℕ → List ℕ → ℕ → List ℕ → ℕ → ℕ → ℕ
stop_named s codes stops t a n = stop_in s codes t a n stops stops

-- the list with the code of stop j put in
abbrev pub put_code : List ℕ → ℕ → ℕ → ℕ → List ℕ
put_code codes j start n = put_from codes (2 * j) (start ∷ n ∷ [])

-- the codes of the first k stops are in the list, and stand in the text
pub record Placed (s codes : List ℕ) (k : ℕ) : Type 0 where
  pub listed : 2 * k ≤ length codes
  pub placed : (j : ℕ) → j < k → code_start codes j + code_length codes j ≤ length s
