-- Laws of `decimal`: a number of one digit, and of one digit more; how long it is.
use Rattle.std.specs.Prelude.{ℕ, zero, suc, ◌+◌, ◌/◌, ◌%◌, ◌^◌, ◌≤◌, ◌<◌, ◌≡◌, refl, List, [], ◌∷◌, Bool, true, false, cond, length, ltb}
use Rattle.std.proofs.Common.{ap, sym, ◌∙◌, arith, length-append, lt-ltb, le-ltb}
use Rattle.std.proofs.Math.Nat.{pow-succ'}
use Rattle.std.proofs.Math.Decide.{dec_lt}
use Rattle.printed.specs.Printed.{digit, with_digit, digits_in, most_digits, decimal}

-- a number that is known, digit by digit
pub decimal_is : (n : ℕ) → decimal n ≡ digits_in most_digits n
unfolding decimal
decimal_is n = refl

pub in_small : (f n : ℕ) → n < 10 → digits_in (suc f) n ≡ digit n ∷ []
in_small f n h = rw (lt-ltb n 10 h)

pub in_more : (f n : ℕ) → 10 ≤ n → digits_in (suc f) n ≡ with_digit (digits_in f (n / 10)) (n % 10)
in_more f n h = rw (le-ltb n 10 h)

-- one digit fewer
pub tenth : (f n : ℕ) → n < 10 ^ suc f → n / 10 < 10 ^ f
tenth f n h = omega (arith, pow-succ' 10 f)

tenth_some : (f n : ℕ) → 10 ≤ n → n < 10 ^ suc f → 0 < f
tenth_some zero n l h = absurd (omega (arith, pow-succ' 10 0))
tenth_some (suc f) n l h = omega arith

-- more digits than the number has make no difference
any_digits : (f g n : ℕ) → 0 < f → f ≤ g → n < 10 ^ f → digits_in g n ≡ digits_in f n
any_digits zero g n p l h = absurd (omega arith)
any_digits (suc f) zero n p l h = absurd (omega arith)
any_digits (suc f) (suc g) n p l h = go (dec_lt n 10) (λ k. any_digits f g (n / 10) (tenth_some f n k h) (omega arith) (tenth f n h))
  where
    go : Dec (n < 10) → (10 ≤ n → digits_in g (n / 10) ≡ digits_in f (n / 10)) → digits_in (suc g) n ≡ digits_in (suc f) n
    go (yes k) ih = in_small g n k ∙ sym (in_small f n k)
    go (no k) ih = let m : 10 ≤ n = omega arith in in_more g n m ∙ ap (λ (x : List ℕ). with_digit x (n % 10)) (ih m) ∙ sym (in_more f n m)

pub decimal_small : (n : ℕ) → n < 10 → decimal n ≡ digit n ∷ []
unfolding decimal
decimal_small n h = in_small 9 n h

pub decimal_more : (n : ℕ) → 10 ≤ n → n < 10 ^ most_digits → decimal n ≡ with_digit (decimal (n / 10)) (n % 10)
unfolding decimal
decimal_more n l h =
    in_more 9 n l ∙ ap (λ (x : List ℕ). with_digit x (n % 10)) (sym (any_digits 9 10 (n / 10) (omega arith) (omega arith) (tenth 9 n h)))

in_length : (f n : ℕ) → length (digits_in f n) ≤ f
in_length zero n = omega arith
in_length (suc f) n = go (ltb n 10) (in_length f (n / 10))
  where
    go : (b : Bool) → length (digits_in f (n / 10)) ≤ f → length (cond b (digit n ∷ []) (with_digit (digits_in f (n / 10)) (n % 10))) ≤ suc f
    go true h = omega arith
    go false h = simp length-append (omega arith)

pub decimal-length : (n : ℕ) → length (decimal n) ≤ most_digits
unfolding decimal
decimal-length n = in_length most_digits n

pub decimal_short : (n : ℕ) → n < 100000 → length (decimal n) ≤ 5
unfolding decimal
decimal_short n h = rw (any_digits 5 most_digits n (omega arith) (omega arith) h) (in_length 5 n)

pub decimal_tenth : (n : ℕ) → 10 ≤ n → n < 10 ^ most_digits → length (decimal n) ≡ length (decimal (n / 10)) + 1
decimal_tenth n l h = rw (decimal_more n l h) (length-append (decimal (n / 10)) (digit (n % 10) ∷ []))
