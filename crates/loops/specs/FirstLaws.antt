-- Laws of the first number such that: the turns of a loop, and that there is one at most.
use Rattle.std.specs.Prelude.{ℕ, zero, suc, ◌+◌, ◌≤◌, ◌<◌, ◌≡◌}
use Rattle.std.proofs.Common.{sym, subst, ⊎_elim, arith, le_refl, eq-or-lt_of_le}
use Rattle.std.proofs.Math.Decide.{dec_le, dec_lt}
use Rattle.loops.specs.First.{Passed, FirstAt}

pub passed_none : {P : ℕ → Type 0} {f : ℕ} → Passed P f f
passed_none = record { low = omega arith; none = λ j le lt h. absurd (omega arith) }

module _ {P : ℕ → Type 0} {f k : ℕ} where
  pub passed_more : Passed P f k → (P k → ⊥) → Passed P f (k + 1)
  passed_more p off =
      record {
        low = omega (arith, p.low);
        none = λ j le lt h. ⊎_elim (λ (e : j ≡ k). off (subst P e h)) (λ (l : j < k). p.none j le l h) (eq-or-lt_of_le (omega arith));
      }

  pub first_here : {to : ℕ} → Passed P f k → k < to → P k → FirstAt P f to k
  first_here p lt h = record { passed = p; high = omega arith; here = λ _. h }

  pub first_end : {to : ℕ} → Passed P f k → k ≤ to → to ≤ k → FirstAt P f to k
  first_end p le ge = record { passed = p; high = le; here = λ lt. absurd (omega arith) }

-- no second number is the first: a contract by `FirstAt` determines the result
pub first_one : {P : ℕ → Type 0} {f to r s : ℕ} → FirstAt P f to r → FirstAt P f to s → r ≡ s
first_one {P} {f} {to} {r} {s} a b = go (dec_lt r s) (dec_lt s r)
  where
    go : Dec (r < s) → Dec (s < r) → r ≡ s
    go (yes h) d = absurd (b.passed.none r a.passed.low h (a.here (omega (arith, b.high))))
    go (no h) (yes k) = absurd (a.passed.none s b.passed.low k (b.here (omega (arith, a.high))))
    go (no h) (no k) = omega arith

-- passed up to where the search began: the first from farther down
pub first_extend : {P : ℕ → Type 0} {f g to r : ℕ} → Passed P f g → FirstAt P g to r → FirstAt P f to r
first_extend {P} {f} {g} {to} {r} p a = record { passed = record { low = omega (arith, p.low, a.passed.low); none = none' }; high = a.high; here = a.here }
  where
    none' : (k : ℕ) → f ≤ k → k < r → P k → ⊥
    none' k le lt h = elim (dec_lt k g) [ yes l ↦ p.none k le l h | no l ↦ a.passed.none k (omega arith) lt h ]

-- what is decided is found
pub first_at : (P : ℕ → Type 0) → ((k : ℕ) → Dec (P k)) → (f to : ℕ) → f ≤ to → (r : ℕ) × FirstAt P f to r
first_at P dec f zero le = (
  0,
  record {
    passed = record { low = le; none = λ k a b h. absurd (omega arith) };
    high = omega arith;
    here = λ l. absurd (omega arith);
  },
)
first_at P dec f (suc to) le = go (dec_le f to) (λ l. first_at P dec f to l)
  where
    step : (r : ℕ) → FirstAt P f to r → Dec (r < to) → Dec (P to) → (r : ℕ) × FirstAt P f (suc to) r
    step r a (yes l) d = (r, record { passed = a.passed; high = omega arith; here = λ _. a.here l })
    step r a (no l) (yes h) = let e : r ≡ to = omega (arith, a.high) in
        (r, record { passed = a.passed; high = omega (arith, a.high); here = λ _. subst P (sym e) h })
    step r a (no l) (no n) = (
      suc to,
      record {
        passed = record {
          low = le;
          none = λ k x y h. elim
              (dec_lt k to) [ yes b ↦ a.passed.none k x (omega (arith, a.high)) h | no b ↦ n (subst P (omega arith) h) ];
        };
        high = le_refl (suc to);
        here = λ x. absurd (omega arith);
      },
    )

    go : Dec (f ≤ to) → (f ≤ to → (r : ℕ) × FirstAt P f to r) → (r : ℕ) × FirstAt P f (suc to) r
    go (yes l) ih = let s = ih l in step s.0 s.1 (dec_lt s.0 to) (dec to)
    go (no l) ih = (
      suc to,
      record {
        passed = record { low = le; none = λ k x y h. absurd (omega arith) };
        high = le_refl (suc to);
        here = λ x. absurd (omega arith);
      },
    )
