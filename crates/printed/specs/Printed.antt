-- What the program "journey" prints, as bytes.
use Rattle.std.specs.Prelude.{ℕ, zero, suc, ◌+◌, ◌*◌, ◌/◌, ◌%◌, List, [], ◌∷◌, ◌++◌, cond, take, drop, ltb}
use Rattle.kinds.specs.Limits.{most_code}
use Rattle.kinds.specs.declared.Code.{Code}
use Rattle.words.specs.Bytes.{bytes}
use Rattle.words.specs.Words.{lf, space, digit0}

-- the byte of a digit
abbrev pub digit : ℕ → ℕ
digit d = digit0 + d

-- one digit more
abbrev pub with_digit : List ℕ → ℕ → List ℕ
with_digit xs d = xs ++ (digit d ∷ [])

-- A number in decimal, with no leading zero except "0" itself; f is at least the number of its digits.
abbrev pub digits_in : ℕ → ℕ → List ℕ
digits_in zero n = []
digits_in (suc f) n = cond (ltb n 10) (digit n ∷ []) (with_digit (digits_in f (n / 10)) (n % 10))

-- as many digits as the numbers of the code, which are below 2 ^ 32, can have
abbrev pub most_digits : ℕ
most_digits = 10

unfoldable pub decimal : ℕ → List ℕ
decimal n = digits_in most_digits n

-- a line: its words with single spaces between them, and LF
abbrev pub line : List ℕ → List (List ℕ) → List ℕ
line w [] = w ++ (lf ∷ [])
line w (x ∷ xs) = w ++ (space ∷ line x xs)

-- ""at" gives departure, arrival, number of rides"
unfoldable pub at_line : ℕ → ℕ → ℕ → List ℕ
at_line dep arr rides = line (bytes "at") (decimal dep ∷ decimal arr ∷ decimal rides ∷ [])

-- the bytes of a code in the text s
abbrev pub code_of : List ℕ → Code → List ℕ
code_of s c = take c.length (drop c.start s)

-- ""ride" gives codes, minutes, trip"
unfoldable pub ride_line : List ℕ → Code → Code → ℕ → ℕ → ℕ → List ℕ
ride_line s from to dep arr trip = line (bytes "ride") (code_of s from ∷ code_of s to ∷ decimal dep ∷ decimal arr ∷ decimal trip ∷ [])

-- ""no" gives the number"
unfoldable pub no_line : ℕ → List ℕ
no_line number = line (bytes "no") (decimal number ∷ [])

-- "A refused timetable prints "no", number and place, and nothing more. A refused build prints the same way."
unfoldable pub no_place_line : ℕ → ℕ → List ℕ
no_place_line number place = line (bytes "no") (decimal number ∷ decimal place ∷ [])

-- room for any of these lines: the longest is a ride's, with its word, two codes, three numbers, a space before each, and LF
abbrev pub longest_line : ℕ
longest_line = 4 + 2 * (1 + most_code) + 3 * (1 + most_digits) + 1
