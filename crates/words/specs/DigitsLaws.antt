-- Laws of digits and of numbers: the turns of the loop over the digits, what its answer says of the bytes, and which bytes are read as a number.
use Rattle.std.specs.Prelude.{ℕ, zero, suc, ◌+◌, ◌*◌, ◌-◌, ◌^◌, ◌≤◌, ◌<◌, ◌≢◌, List, Bool, true, false, cond, ltb, eqb, Err, None, Ok, Some}
use Rattle.std.proofs.Math.Path.{◌≡◌, refl}
use native.Mathlib.Omega.{arith}
use Rattle.std.proofs.Common.{add-zero, add-one}
use Rattle.std.proofs.Math.Nat.{pow-succ', pow-le-pow_right}
use Rattle.std.proofs.Math.ListN.{get_or}
use borrow.Author.Tests.{lt-ltb, le-ltb, le-leb, eq-eqb, ne_eqb, ltb-false, eqb-true}
use Rattle.loops.specs.ChainLaws.{past, stays}
use Rattle.loops.specs.Every.{all_b}
use Rattle.loops.specs.EveryLaws.{all_none, all_more, all_fails, all_of}
use Rattle.std.specs.Char.{is_ascii_digit}
use Rattle.std.proofs.lemmas.Bool.Decides.{nat_tests}
use Rattle.kinds.specs.declared.Reason.TheVariants as reason
use Rattle.words.specs.Words.{space, digit0, digit9, seek, is_digit, is_digit_at, is_number, value_of, number_at}
use Rattle.words.specs.Digits.{digits_at, Digits, NumberForm}

-- ---- a digit
pub is_digit_lem : (b : ℕ) → digit0 ≤ b → b ≤ digit9 → is_digit b ≡ true
unfolding is_digit
is_digit_lem b lo hi = rw (le-ltb b digit0 lo, le-leb b digit9 hi)

pub digit_low : (b : ℕ) → is_digit b ≡ true → digit0 ≤ b
unfolding is_digit
digit_low b h = ltb-false b digit0 (past (ltb b digit0) h (λ z. cc)).0

-- std's test of a digit is ours
pub is_digit_ascii : (b : ℕ) → is_digit b ≡ is_ascii_digit b
unfolding is_digit
is_digit_ascii b = grind (arith, nat_tests)

-- ---- the value of digits: of none, of one more, of the same bytes elsewhere, of "0" itself
module _ (s : List ℕ) (a : ℕ) where
  pub value_none : value_of s a 0 ≡ 0
  unfolding value_of
  value_none = refl

  pub value_more : (n : ℕ) → value_of s a (suc n) ≡ 10 * value_of s a n + (get_or s (a + n) 0 - digit0)
  unfolding value_of
  value_more n = refl

  pub zero_value : get_or s a 0 ≡ digit0 → value_of s a 1 ≡ 0
  unfolding value_of
  zero_value e = rw (add-zero, e)

pub value_same : (s : List ℕ) (a : ℕ) (t : List ℕ) (b m : ℕ) → ((k : ℕ) → k < m → get_or s (a + k) 0 ≡ get_or t (b + k) 0) → value_of s a m ≡ value_of t b m
unfolding value_of
value_same s a t b zero h = refl
value_same s a t b (suc m) h = rw (value_same s a t b m (λ k l. h k (omega arith)), h m (omega arith))

-- ---- the loop over the digits
module _ (s : List ℕ) (a : ℕ) where
  pub digits_none : Digits s a 0 0
  digits_none = record { is = rw (value_none s a); all = all_none _; small = omega arith }

  pub digits_fail : (n k : ℕ) → k < n → is_digit_at s a k ≡ false → None ≡ digits_at s a n
  unfolding digits_at
  digits_fail n k lt h = rw (all_fails (is_digit_at s a) n k lt h)

module _ {s : List ℕ} {a v k : ℕ} (d : Digits s a v k) where
  pub digits_more : digit0 ≤ get_or s (a + k) 0 → get_or s (a + k) 0 ≤ digit9 → Digits s a (10 * v + (get_or s (a + k) 0 - digit0)) (k + 1)
  digits_more lo hi =
      let p : 10 ^ (k + 1) ≡ 10 * 10 ^ k = rw add-one (pow-succ' 10 k) in
      record {
        is = rw (add-one, value_more s a k, ← d.is);
        all = all_more _ k d.all (is_digit_lem _ lo hi);
        small = omega (arith, d.small);
      }

  pub digits_good : Some v ≡ digits_at s a k
  unfolding digits_at
  digits_good = rw (d.all, ← d.is)

  pub digits_small : k < 5 → v < 10000
  digits_small h = omega (arith, d.small, pow-le-pow_right {n = 10} (omega arith) {i = k} {j = 4} (omega arith))

-- what of that loop the check finds alone
pub ruleset digits_turns = (digits_good, digits_small)

-- what the loop's answer says of the bytes
module _ (s : List ℕ) (a n : ℕ) where
  pub digits_value : (v : ℕ) → digits_at s a n ≡ Some v → (all_b (is_digit_at s a) n ≡ true) × (value_of s a n ≡ v)
  unfolding digits_at
  digits_value v e =
      let z = stays (all_b (is_digit_at s a) n) e (λ x. cc) in
      let f = z.1 in
      (z.0, cc)

  pub digits_other : digits_at s a n ≡ None → all_b (is_digit_at s a) n ≡ false
  unfolding digits_at
  digits_other e = (past (all_b (is_digit_at s a) n) e (λ x. cc)).0

-- the form of a number: its length and its lead, then its digits
module _ (s : List ℕ) (a n : ℕ) where
  pub form_none : n ≡ 0 → is_number s a n ≡ false
  unfolding is_number
  form_none h = rw (eq-eqb n 0 h)

  pub form_many : 5 < n → is_number s a n ≡ false
  unfolding is_number
  form_many h = rw (ne_eqb n 0 (λ z. omega arith), lt-ltb 5 n h)

  pub form_lead : n ≢ 0 → n ≤ 5 → get_or s a 0 ≡ digit0 → n ≢ 1 → is_number s a n ≡ false
  unfolding is_number
  form_lead h k l m = rw (ne_eqb n 0 h, le-ltb 5 n k, eq-eqb _ _ l, ne_eqb n 1 m)

  lead_digit : get_or s a 0 ≡ digit0 → (k : ℕ) → k ≡ 0 → is_digit_at s a k ≡ true
  lead_digit e k z = rw (z, add-zero, e) (is_digit_lem digit0 (omega arith) (omega arith))

  pub form_digits : n ≢ 0 → n ≤ 5 → (get_or s a 0 ≡ digit0 → n ≡ 1) → is_number s a n ≡ all_b (is_digit_at s a) n
  unfolding is_number
  form_digits h k f = rw (ne_eqb n 0 h, le-ltb 5 n k) (go (eqb (get_or s a 0) digit0) (eqb-true (get_or s a 0) digit0))
    where
      go : (b : Bool) → (b ≡ true → get_or s a 0 ≡ digit0) → cond b (eqb n 1) (all_b (is_digit_at s a) n) ≡ all_b (is_digit_at s a) n
      go true z = let m = f (z refl) in rw (m, all_of (is_digit_at s a) 1 (λ k l. lead_digit (z refl) k (omega arith)))
      go false z = refl

module _ (s : List ℕ) (a e n : ℕ) (q : n ≡ seek space s a e - a) (some : n ≢ 0) (few : n ≤ 5) (lead : get_or s a 0 ≡ digit0 → n ≡ 1) where
  pub number_none : digits_at s a n ≡ None → number_at s a e ≡ Err reason.LineShape
  unfolding number_at
  number_none h = rw (← q, form_digits s a n some few lead, digits_other s a n h)

  pub number_some : (v : ℕ) → digits_at s a n ≡ Some v → number_at s a e ≡ Ok (record { value = v; end = seek space s a e })
  unfolding number_at
  number_some v h =
      let d = digits_value s a n v h in
      rw (← q, form_digits s a n some few lead, d.0, d.1)

-- which bytes are read as a number, and which are not
pub ruleset number_forms = (form_none, form_many, form_lead, number_none, number_some)

-- ---- bytes of the form of a number are read as their value, where the field ends behind them
pub number_good : (s : List ℕ) (a e n : ℕ) → NumberForm s a n → seek space s a e ≡ a + n → number_at s a e ≡ Ok (record {
  value = value_of s a n;
  end = a + n;
})
unfolding number_at
number_good s a e n f q =
    let m : a + n - a ≡ n = omega arith in
    rw (q, m, form_digits s a n (λ z. omega (arith, f.some)) f.few f.lead, all_of (is_digit_at s a) n f.digits)
