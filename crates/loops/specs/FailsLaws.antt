-- Laws of the first number that fails: the turns of a loop, and that there is one at most.
use Rattle.std.specs.Prelude.{ℕ, ◌+◌, ◌≤◌, ◌<◌, ◌≡◌}
use Rattle.std.proofs.Common.{sym, subst, ⊎_elim, arith, eq-or-lt_of_le}
use Rattle.std.proofs.Math.Decide.{dec_lt}
use Rattle.loops.specs.Fails.{HoldsTo, FailsAt}

pub holds_none : {P : ℕ → Type 0} {f : ℕ} → HoldsTo P f f
holds_none = record { low = omega arith; each = λ k le lt. absurd (omega arith) }

module _ {P : ℕ → Type 0} {f k : ℕ} where
  pub holds_start : k ≡ f → HoldsTo P f k
  holds_start e = record { low = omega arith; each = λ j le lt. absurd (omega arith) }

  pub holds_more : HoldsTo P f k → P k → HoldsTo P f (k + 1)
  holds_more h p =
      record {
        low = omega (arith, h.low);
        each = λ j le lt. ⊎_elim (λ (e : j ≡ k). subst P (sym e) p) (λ (l : j < k). h.each j le l) (eq-or-lt_of_le (omega arith));
      }

  pub fails_here : {to : ℕ} → HoldsTo P f k → k < to → ¬ (P k) → FailsAt P f to k
  fails_here h lt n = record { held = h; high = omega arith; here = λ _. n }

  pub fails_end : {to : ℕ} → HoldsTo P f k → k ≤ to → to ≤ k → FailsAt P f to k
  fails_end h le ge = record { held = h; high = le; here = λ lt. absurd (omega arith) }

-- what held up to where the search began
pub holds_on : {P : ℕ → Type 0} {f g r : ℕ} → HoldsTo P f g → HoldsTo P g r → HoldsTo P f r
holds_on {P} {f} {g} {r} a b = record { low = omega (arith, a.low, b.low); each = each' }
  where
    each' : (k : ℕ) → f ≤ k → k < r → P k
    each' k le lt = elim (dec_lt k g) [ yes l ↦ a.each k le l | no l ↦ b.each k (omega arith) lt ]

-- the first that fails in a part that ends before the whole; a part in which none fails
pub fails_on : {P : ℕ → Type 0} {f g to all r : ℕ} → HoldsTo P f g → FailsAt P g to r → r < to → to ≤ all → FailsAt P f all r
fails_on h a lt le = record { held = holds_on h a.held; high = omega arith; here = λ _. a.here lt }

pub fails_none : {P : ℕ → Type 0} {f to r : ℕ} → FailsAt P f to r → to ≤ r → HoldsTo P f to
fails_none {P} {f} {to} {r} a le = subst (HoldsTo P f) (omega (arith, a.high)) a.held

-- no second number is the first that fails: a contract by `FailsAt` determines the result
pub fails_one : {P : ℕ → Type 0} {f to r s : ℕ} → FailsAt P f to r → FailsAt P f to s → r ≡ s
fails_one {P} {f} {to} {r} {s} a b = go (dec_lt r s) (dec_lt s r)
  where
    go : Dec (r < s) → Dec (s < r) → r ≡ s
    go (yes h) d = absurd (a.here (omega (arith, b.high)) (b.held.each r a.held.low h))
    go (no h) (yes k) = absurd (b.here (omega (arith, a.high)) (a.held.each s b.held.low k))
    go (no h) (no k) = omega arith
