-- Words of a text: where a byte next stands, what a stretch of bytes begins with or is, a number, a code.
-- A stretch of the text s begins at a and goes up to, not including, e.
use Rattle.std.specs.Prelude.{ℕ, zero, suc, ◌+◌, ◌*◌, ◌-◌, ◌≤◌, ◌≡◌, List, Bool, false, cond, length, get_or, ltb, leb, eqb, Err, Ok, Result}
use Rattle.loops.specs.Every.{all_b, same_b}
use Rattle.kinds.specs.Kinds.{is_code_byte, is_code_length}
use Rattle.kinds.specs.declared.Reason.TheVariants as reason
use Rattle.words.specs.declared.Number.{Number}
use Rattle.kinds.specs.declared.Reason.{Reason}

-- "Lines end in LF (byte 10)."
abbrev pub lf : ℕ
lf = 10

-- the byte between two fields of a line
abbrev pub space : ℕ
space = 32

-- the bytes "0" and "9"
abbrev pub digit0 : ℕ
digit0 = 48

abbrev pub digit9 : ℕ
digit9 = 57

-- the first of the n places from a on where the byte x stands; the place after them where there is none
unfoldable pub seek_in : ℕ → List ℕ → ℕ → ℕ → ℕ
seek_in x s a zero = a
seek_in x s a (suc n) = cond (eqb (get_or s a 0) x) a (seek_in x s (a + 1) n)

-- the same in a stretch: e where there is none
unfoldable pub seek : ℕ → List ℕ → ℕ → ℕ → ℕ
seek x s a e = seek_in x s a (e - a)

-- what the function `seek` answers: that place, and that it is in the stretch or at its end
pub record Sought (x : ℕ) (s : List ℕ) (a e r : ℕ) : Type 0 where
  pub is : r ≡ seek x s a e
  pub low : a ≤ r
  pub high : r ≤ e

-- the stretch begins with the word w
unfoldable pub begins_b : List ℕ → ℕ → ℕ → List ℕ → Bool
begins_b s a e w = cond (ltb (e - a) (length w)) false (same_b s a w 0 (length w))

-- the stretch is the word w
unfoldable pub is_word_b : List ℕ → ℕ → ℕ → List ℕ → Bool
is_word_b s a e w = cond (eqb (e - a) (length w)) (same_b s a w 0 (length w)) false

unfoldable pub is_digit : ℕ → Bool
is_digit b = cond (ltb b digit0) false (leb b digit9)

abbrev pub is_digit_at : List ℕ → ℕ → ℕ → Bool
is_digit_at s a k = is_digit (get_or s (a + k) 0)

-- "Numbers are decimal, 1 to 5 digits, no leading zero except "0" itself": n bytes from a on have this form
unfoldable pub is_number : List ℕ → ℕ → ℕ → Bool
is_number s a n =
    cond (eqb n 0) false
    (cond (ltb 5 n) false
    (cond (eqb (get_or s a 0) digit0) (eqb n 1) (all_b (is_digit_at s a) n)))

-- their value
unfoldable pub value_of : List ℕ → ℕ → ℕ → ℕ
value_of s a zero = 0
value_of s a (suc n) = 10 * value_of s a n + (get_or s (a + n) 0 - digit0)

-- The number that begins at a: it goes up to the next space, or to the end of the stretch where there is none;
-- "any other form is refusal 2".
unfoldable pub number_at : List ℕ → ℕ → ℕ → Result Number Reason
number_at s a e =
    cond (is_number s a (seek space s a e - a))
    (Ok (record { value = value_of s a (seek space s a e - a); end = seek space s a e }))
    (Err reason.LineShape)

abbrev pub is_code_byte_at : List ℕ → ℕ → ℕ → Bool
is_code_byte_at s a k = is_code_byte (get_or s (a + k) 0)

-- "Codes 1 to 64 bytes, each byte 33 to 126": n bytes from a on are a code
unfoldable pub is_code : List ℕ → ℕ → ℕ → Bool
is_code s a n = cond (is_code_length n) (all_b (is_code_byte_at s a) n) false
