-- How many labels the rule has, by tests that compute over tables by the rule.
use Rattle.std.specs.Prelude.{◌≡◌, refl, ◌↔◌, not, cond, ℕ, ◌+◌, ◌-◌, ◌≤◌, ◌<◌, T, leb, ltb}
use Rattle.std.proofs.Math.Option.{Option}
use native.Mathlib.Omega.{arith}
use Rattle.std.proofs.Math.Decide.{dec_lt}
use Rattle.std.proofs.Math.Dec.{leb→le, eqb→eq, ltb→lt, T_not, not_T}
use Rattle.std.proofs.Common.{le→leb, lt→ltb, lt-ltb, le-ltb}
use Rattle.journeys.specs.Service.{Service}
use Rattle.journeys.specs.Tables.{Side, outs, ins, Tables, Entry, GoodTables}
use Rattle.journeys.specs.Rule.{Rule, ByRule}
use Rattle.journeys.specs.Count.{PairLabels, sum_pairs, RuleCount}
use Rattle.journeys.proofs.TestLaws.{T_and, and_split, or_split, t_same, all_of}
use Rattle.journeys.specs.Tests.{and_then, allb}
use Rattle.journeys.specs.CountTests.{first_with, many_with, is_withb, amongb, withb, row_with, many_for, row_for, countsb}

module _ {X : Tables} (good : GoodTables X) where
  is_with : (side : Side) (s h k : ℕ) → s < X.stops → T (is_withb X side s h k) → Entry X side k s h (X.dep k) (X.arr k) (X.pivot k)
  unfolding is_withb
  is_with side s h k l q =
      let t = and_split (leb (X.start side s) k) _ q in
      let t₁ = and_split (ltb k (X.end side s)) _ t.1 in
      record {
        owner = l;
        low = leb→le (X.start side s) k t.0;
        high = ltb→lt k (X.end side s) t₁.0;
        hub = eqb→eq (X.hub k) h t₁.1;
        dep = refl;
        arr = refl;
        pivot = refl;
      }

  t_with : {side : Side} {k s h d a : ℕ} {p : Option ℕ} → Entry X side k s h d a p → T (is_withb X side s h k)
  unfolding is_withb
  t_with {side} {k} {s} {h} e =
      T_and (leb (X.start side s) k) _ (le→leb (X.start side s) k e.low)
      (T_and (ltb k (X.end side s)) _ (lt→ltb k (X.end side s) e.high) (t_same (X.hub k) h e.hub))

  -- the labels of a set with hub h, where they are all the labels u to v
  module _ {S : Service} (side : Side) (s h u v : ℕ) (l : s < X.stops) (q : T (withb X side s h))
      (rule : (d a : ℕ) (p : Option ℕ) → ((k : ℕ) × Entry X side k s h d a p) ↔ Rule S u v d a p) where
    two : T (allb (many_with X side s h) (λ i. is_withb X side s h (first_with X side s h + i))) × T (allb (X.end side s) (amongb X side s h))
    unfolding withb
    two = and_split (allb (many_with X side s h) (λ i. is_withb X side s h (first_with X side s h + i))) (λ _. allb (X.end side s) (amongb X side s h)) q

    row_entry : (i : ℕ) → i < many_with X side s h → Entry X side (first_with X side s h + i) s h (row_with X side s h i).dep (row_with X side s h i).arr
        (row_with X side s h i).pivot
    unfolding row_with
    row_entry i lt = is_with side s h (first_with X side s h + i) l
        (all_of (many_with X side s h) (λ i. is_withb X side s h (first_with X side s h + i)) two.0 i lt)

    entry_among : {k d a : ℕ} {p : Option ℕ} → Entry X side k s h d a p → (first_with X side s h ≤ k) × (k < first_with X side s h + many_with X side s h)
    unfolding amongb
    entry_among {k} e =
        let t = or_split (not (is_withb X side s h k)) _ (all_of (X.end side s) (amongb X side s h) two.1 k e.high)
        (not_T (not (is_withb X side s h k)) (λ n. T_not (is_withb X side s h k) n (t_with e))) in
        let t₁ = and_split (leb (first_with X side s h) k) _ t in
        (leb→le (first_with X side s h) k t₁.0, ltb→lt k (first_with X side s h + many_with X side s h) t₁.1)

    row_at : {k d a : ℕ} {p : Option ℕ} → Entry X side k s h d a p → first_with X side s h ≤ k →
        row_with X side s h (k - first_with X side s h) ≡ record { dep = d; arr = a; pivot = p }
    unfolding row_with
    row_at {k} e le = let z : first_with X side s h + (k - first_with X side s h) ≡ k = omega arith in rw (z, e.dep, e.arr, e.pivot)

    pub labels_of_lem : PairLabels S u v (many_with X side s h) (row_with X side s h)
    labels_of_lem = record {
      rises = λ i k lt m. good.deps_rise (row_entry i (omega arith)) (row_entry k m) (omega arith);
      sound = λ i m. (rule _ _ _).0 (first_with X side s h + i, row_entry i m);
      full = λ d a p r. let e = (rule d a p).1 r in let m = entry_among e.1 in (e.0 - first_with X side s h, omega (arith, m), row_at e.1 m.0);
    }

-- the rule has as many labels as tables by the rule have between all pairs of stops
module _ {S : Service} {X : Tables} (R : ByRule S X) (good : GoodTables X) (same : X.stops ≡ S.stops) (q : T (countsb X)) where
  both : (s h : ℕ) → s < S.stops → h < S.stops → T (withb X outs s h) × T (withb X ins s h)
  unfolding countsb
  both s h l m = and_split (withb X outs s h) (λ _. withb X ins s h)
      (all_of X.stops (λ h. and_then (withb X outs s h) (λ _. withb X ins s h))
      (all_of X.stops (λ s. allb X.stops (λ h. and_then (withb X outs s h) (λ _. withb X ins s h))) q s (omega arith)) h (omega arith))

  pair_labels : (u v : ℕ) → u < S.stops → v < S.stops → PairLabels S u v (many_for X u v) (row_for X u v)
  unfolding many_for row_for
  pair_labels u v l m = go (dec_lt v u)
    where
      go : Dec (v < u) → PairLabels S u v (cond (ltb v u) (many_with X outs u v) (many_with X ins v u))
          (cond (ltb v u) (row_with X outs u v) (row_with X ins v u))
      go (yes h) = rw (lt-ltb v u h) (labels_of_lem good outs u v u v (omega arith) (both u v l m).0
          (λ d a p. ((λ e. ((R.out_rule u v d a p).0 e).1), (λ r. (R.out_rule u v d a p).1 (h, r)))))
      go (no h) = rw (le-ltb v u (omega arith)) (labels_of_lem good ins v u u v (omega arith) (both v u m l).1
          (λ d a p. ((λ e. ((R.in_rule u v d a p).0 e).1), (λ r. (R.in_rule u v d a p).1 (omega (arith, r.apart), r)))))

  pub rule_count_of : RuleCount S (sum_pairs S.stops (many_for X))
  rule_count_of = record { count = many_for X; row = row_for X; labels = pair_labels; are = refl }
