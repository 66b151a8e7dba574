-- Laws of the file's numbers: where the sets begin and end, and what a label that is read says of the tables.
use Prim.Native.Nat.{ℕ, zero, suc, ◌+◌, ◌*◌, ◌≤◌, ◌<◌}
use Rattle.std.specs.Prelude.{◌≡◌, List, ltb}
use Rattle.std.proofs.Math.Path.{refl, subst}
use Rattle.std.proofs.Common.{sym, add-one, eq-or-lt_of_le, le-ltb, lt-ltb}
use Rattle.std.proofs.Math.Logic.{⊎_elim}
use native.Mathlib.Omega.{arith}
use Rattle.std.proofs.Math.Decide.{dec_lt}
use Rattle.loops.specs.FilledLaws.{filled_none, filled_more}
use Rattle.kinds.specs.declared.Label.{Label}
use Rattle.tables.specs.File.{stops_of, start_of, end_of, labels_of}
use Rattle.tables.specs.Judged.{follows}
use Rattle.tables.specs.Good.{Contents}

module _ (b : List ℕ) where
  pub start_none : start_of b 0 ≡ 0
  unfolding start_of
  start_none = refl

  pub start_more : (set : ℕ) → start_of b (set + 1) ≡ end_of b set
  unfolding start_of
  start_more set = rw (add-one set)

  -- the sets stand in order
  pub start_rises : (m set : ℕ) → set ≤ m → start_of b set ≤ start_of b m
  unfolding start_of
  start_rises zero zero le = omega arith
  start_rises zero (suc set) le = absurd (omega arith)
  start_rises (suc m) set le =
      ⊎_elim (λ (e : set ≡ suc m). subst (λ (k : ℕ). start_of b k ≤ start_of b (suc m)) (sym e) (omega arith))
      (λ (lt : set < suc m). omega (arith, start_rises m set (omega arith))) (eq-or-lt_of_le le)

  -- each within the labels of the sets up to m
  pub end_within : (m set : ℕ) → set < m → end_of b set ≤ start_of b m
  end_within m set lt = omega (arith, start_more set, start_rises m (set + 1) (omega arith))

  -- so a label stands in one set only
  pub set_only : {i j k : ℕ} → start_of b i ≤ k → k < end_of b i → start_of b j ≤ k → k < end_of b j → i ≡ j
  set_only {i} {j} h₁ h₂ h₃ h₄ = go (dec_lt i j) (dec_lt j i)
    where
      go : Dec (i < j) → Dec (j < i) → i ≡ j
      go (yes l) d = absurd (omega (arith, end_within j i l))
      go (no l) (yes m) = absurd (omega (arith, end_within i j m))
      go (no l) (no m) = omega arith

-- and within the labels of the file
pub set_within : {b : List ℕ} {n set : ℕ} → Contents b n → set < 2 * n → end_of b set ≤ labels_of b
set_within {b} {n} {set} g lt = end_within b (2 * stops_of b) set (omega (arith, g.stops))

-- what the loop that writes the starts goes by
pub ruleset start_turns = (set_within, filled_none, filled_more)

-- a label stands in one of the sets
pub located : (b : List ℕ) (m k : ℕ) → k < start_of b m → (set : ℕ) × (set < m) × (start_of b set ≤ k) × (k < end_of b set)
unfolding start_of
located b zero k lt = absurd (omega arith)
located b (suc m) k lt = go (dec_lt k (start_of b m)) (λ h. located b m k h)
  where
    go : Dec (k < start_of b m) → (k < start_of b m → (set : ℕ) × (set < m) × (start_of b set ≤ k) × (k < end_of b set)) →
        (set : ℕ) × (set < suc m) × (start_of b set ≤ k) × (k < end_of b set)
    go (yes h) rec = let r = rec h in (r.0, omega (arith, r.1), r.2, r.3)
    go (no h) rec = (m, omega arith, omega arith, omega arith)

-- for one hub and a later departure, the arrivals decide
pub follows_later : (m l : Label) → m.hub ≤ l.hub → l.hub ≤ m.hub → m.dep < l.dep → follows m l ≡ ltb m.arr l.arr
unfolding follows
follows_later m l le ge lt = rw (le-ltb l.hub m.hub le, le-ltb m.hub l.hub ge, lt-ltb m.dep l.dep lt)
