-- A number that was printed is read back: words' `number_at` reads what `decimal` printed, up to the limit of five digits.
use Rattle.std.specs.Prelude.{ℕ, zero, suc, ◌+◌, ◌/◌, ◌%◌, ◌^◌, ◌≤◌, ◌<◌, ◌≡◌, refl, List, [], ◌∷◌, true, ◌⊎◌, length, get_or, Ok}
use Rattle.std.proofs.Common.{ap, sym, ◌∙◌, inl, inr, arith, add-zero, zero-add, length-append}
use Rattle.std.proofs.Math.Decide.{dec_lt}
use Rattle.std.proofs.Math.ListN.{get_or-append}
use Rattle.std.proofs.Math.Seq.{get_or-append_seam}
use Rattle.words.specs.Words.{space, digit0, seek, is_digit, value_of, number_at}
use Rattle.words.specs.Digits.{NumberForm}
use Rattle.words.specs.WordsLaws.{seek_here, seek_end, seek_past}
use Rattle.words.specs.DigitsLaws.{is_digit_lem, digit_low, value_none, value_more, zero_value, value_same, number_good}
use Rattle.printed.specs.Printed.{digit, with_digit, digits_in, most_digits, decimal}
use Rattle.printed.specs.Decimal.{Decimal}
use Rattle.printed.specs.DecimalLaws.{in_small, in_more, tenth, decimal_short}

one : (n : ℕ) → n < 10 → Decimal (digit n ∷ []) n
one n h =
    record {
      some = omega arith;
      digits = at;
      value = rw (value_more (digit n ∷ []) 0 0, value_none (digit n ∷ []) 0) (omega arith);
      lead = λ e. refl;
    }
  where
    at : (k : ℕ) → k < 1 → is_digit (get_or (digit n ∷ []) k 0) ≡ true
    at zero l = is_digit_lem (digit n) (omega arith) (omega arith)
    at (suc k) l = absurd (omega arith)

-- one digit more
more : (ys : List ℕ) (n : ℕ) → 10 ≤ n → Decimal ys (n / 10) → Decimal (with_digit ys (n % 10)) n
more ys n h d =
    record {
      some = omega (arith, long);
      digits = λ k l. at k l (dec_lt k (length ys));
      value = ap (value_of (with_digit ys (n % 10)) 0) long ∙ sum;
      lead = λ e. absurd (first (sym (kept 0 d.some) ∙ e));
    }
  where
    long : length (with_digit ys (n % 10)) ≡ suc (length ys)
    long = let e = length-append ys (digit (n % 10) ∷ []) in omega arith

    kept : (k : ℕ) → k < length ys → get_or (with_digit ys (n % 10)) k 0 ≡ get_or ys k 0
    kept k l = get_or-append ys (digit (n % 10) ∷ []) 0 k l

    last : get_or (with_digit ys (n % 10)) (length ys) 0 ≡ digit (n % 10)
    last = get_or-append_seam ys (digit (n % 10)) [] 0

    at : (k : ℕ) → k < length (with_digit ys (n % 10)) → Dec (k < length ys) → is_digit (get_or (with_digit ys (n % 10)) k 0) ≡ true
    at k m (yes l) = rw (kept k l) (d.digits k l)
    at k m (no l) = let e : k ≡ length ys = omega (arith, long) in rw (e, last) (is_digit_lem (digit (n % 10)) (omega arith) (omega arith))

    sum : value_of (with_digit ys (n % 10)) 0 (suc (length ys)) ≡ n
    sum =
        let v = value_same (with_digit ys (n % 10)) 0 ys 0 (length ys) (λ k l. rw (zero-add k) (kept k l)) ∙ d.value in
        rw (value_more (with_digit ys (n % 10)) 0 (length ys), v, zero-add (length ys), last) (omega arith)

    first : get_or ys 0 0 ≡ digit0 → ⊥
    first e = let v : n / 10 ≡ 0 = sym d.value ∙ ap (value_of ys 0) (d.lead e) ∙ zero_value ys 0 e in omega arith

decimal_in : (f n : ℕ) → n < 10 ^ suc f → Decimal (digits_in (suc f) n) n
decimal_in zero n h = let l : n < 10 = h in rw (in_small 0 n l) (one n l)
decimal_in (suc f) n h = go (dec_lt n 10) (decimal_in f (n / 10) (tenth (suc f) n h))
  where
    go : Dec (n < 10) → Decimal (digits_in (suc f) (n / 10)) (n / 10) → Decimal (digits_in (suc (suc f)) n) n
    go (yes l) d = rw (in_small (suc f) n l) (one n l)
    go (no l) d = let m : 10 ≤ n = omega arith in rw (in_more (suc f) n m) (more (digits_in (suc f) (n / 10)) n m d)

pub is_decimal : (n : ℕ) → n < 10 ^ most_digits → Decimal (decimal n) n
unfolding decimal
is_decimal n h = decimal_in 9 n h

-- The bytes of s from a on are those of n in decimal, and there the field ends: at the end of the line, or at a space.
module _ (s : List ℕ) (a e n : ℕ) (small : n < 100000) (fits : a + length (decimal n) ≤ e)
    (same : (k : ℕ) → k < length (decimal n) → get_or s (a + k) 0 ≡ get_or (decimal n) k 0)
    (ends : (e ≡ a + length (decimal n)) ⊎ (get_or s (a + length (decimal n)) 0 ≡ space)) where
  printed : Decimal (decimal n) n
  printed = is_decimal n (omega arith)

  sought : seek space s a e ≡ a + length (decimal n)
  sought = seek_past space s a e (length (decimal n)) fits off ∙ stop ends (dec_lt (a + length (decimal n)) e)
    where
      off : (k : ℕ) → k < length (decimal n) → get_or s (a + k) 0 ≡ space → ⊥
      off k l q = omega (arith, digit_low (get_or (decimal n) k 0) (printed.digits k l), same k l)

      stop : (e ≡ a + length (decimal n)) ⊎ (get_or s (a + length (decimal n)) 0 ≡ space) → Dec (a + length (decimal n) < e) →
          seek space s (a + length (decimal n)) e ≡ a + length (decimal n)
      stop x (no l) = seek_end space s (a + length (decimal n)) e (omega arith)
      stop (inl q) (yes l) = absurd (omega arith)
      stop (inr q) (yes l) = seek_here space s (a + length (decimal n)) e l q

  formed : NumberForm s a (length (decimal n))
  formed =
      record {
        some = printed.some;
        few = decimal_short n small;
        digits = λ k l. rw (same k l) (printed.digits k l);
        lead = λ q. printed.lead (sym (rw add-zero at (same 0 printed.some)) ∙ q);
      }

  valued : value_of s a (length (decimal n)) ≡ n
  valued = value_same s a (decimal n) 0 (length (decimal n)) (λ k l. rw (zero-add k) (same k l)) ∙ printed.value

  pub read_back : number_at s a e ≡ Ok (record { value = n; end = a + length (decimal n) })
  read_back = number_good s a e (length (decimal n)) formed sought ∙ rw valued
