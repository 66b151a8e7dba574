-- A number's digits, byte by byte, and the loop over them: at most five, so that the value stays small.
use Rattle.std.specs.Prelude.{ℕ, ◌^◌, ◌≤◌, ◌<◌, ◌≡◌, List, true, cond, get_or, None, Option, Some}
use Rattle.loops.specs.Every.{all_b}
use Rattle.words.specs.Words.{digit0, is_digit_at, value_of}

-- n bytes from a on are all digits, and their value
unfoldable pub digits_at : List ℕ → ℕ → ℕ → Option ℕ
digits_at s a n = cond (all_b (is_digit_at s a) n) (Some (value_of s a n)) None

-- the first k are digits, and v is their value
pub record Digits (s : List ℕ) (a v k : ℕ) : Type 0 where
  pub is : v ≡ value_of s a k
  pub all : all_b (is_digit_at s a) k ≡ true
  pub small : v < 10 ^ k

-- n bytes from a on have the form of a number, said of each byte
pub record NumberForm (s : List ℕ) (a n : ℕ) : Type 0 where
  pub some : 0 < n
  pub few : n ≤ 5
  pub digits : (k : ℕ) → k < n → is_digit_at s a k ≡ true
  pub lead : get_or s a 0 ≡ digit0 → n ≡ 1
