-- What is known of a number's bytes in decimal.
use Rattle.std.specs.Prelude.{ℕ, ◌<◌, ◌≡◌, List, true, length, get_or}
use Rattle.words.specs.Words.{digit0, is_digit, value_of}

-- the bytes xs are the number n in decimal: digits, of this value, with no leading zero except "0" itself
pub record Decimal (xs : List ℕ) (n : ℕ) : Type 0 where
  pub some : 0 < length xs
  pub digits : (k : ℕ) → k < length xs → is_digit (get_or xs k 0) ≡ true
  pub value : value_of xs 0 (length xs) ≡ n
  pub lead : get_or xs 0 0 ≡ digit0 → length xs ≡ 1
