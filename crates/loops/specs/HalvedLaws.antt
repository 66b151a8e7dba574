-- Laws of halving: the turns of the loop, and its end.
use Rattle.std.specs.Prelude.{ℕ, ◌+◌, ◌-◌, ◌≤◌, ◌<◌}
use Rattle.std.proofs.Common.{subst, arith}
use Rattle.std.proofs.Math.Decide.{dec_lt}
use Rattle.loops.specs.First.{FirstAt}
use Rattle.loops.specs.Halved.{Halved}

module _ {P : ℕ → Type 0} {from to : ℕ} where
  pub halved_begin : from ≤ to → Halved P from to from to
  halved_begin h = record { least = omega arith; rising = h; most = omega arith; before = λ lt. absurd (omega arith); behind = λ lt. absurd (omega arith) }

  module _ {low high : ℕ} (H : Halved P from to low high) where
    pub halved_low : {mid : ℕ} → low ≤ mid → mid < high → P mid → Halved P from to low mid
    halved_low le lt p = record { least = H.least; rising = le; most = omega (arith, H.most); before = H.before; behind = λ _. p }

    pub halved_high : {mid : ℕ} → low ≤ mid → mid < high → ¬ (P mid) → Halved P from to (mid + 1) high
    halved_high {mid} le lt n = record {
      least = omega (arith, H.least);
      rising = omega arith;
      most = H.most;
      before = λ _ p. n (subst P (omega arith) p);
      behind = H.behind;
    }

    -- what has P is followed by what has P
    pub halved_end : high ≤ low → ((i k : ℕ) → from ≤ i → i < k → k < to → P i → P k) → FirstAt P from to low
    halved_end ge up = record {
      passed = record { low = H.least; none = none' };
      high = omega (arith, H.rising, H.most);
      here = λ lt. subst P (omega (arith, H.rising)) (H.behind (omega (arith, H.rising)));
    }
      where
        none' : (k : ℕ) → from ≤ k → k < low → P k → ⊥
        none' k le lt p = elim (dec_lt k (low - 1)) [
          | yes l ↦ H.before (omega arith) (up k (low - 1) le l (omega (arith, H.rising, H.most)) p)
          | no l ↦ H.before (omega arith) (subst P (omega arith) p)
        ]
