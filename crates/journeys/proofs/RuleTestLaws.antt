-- The label rule by tests that compute: that tables are by the rule. A journey's pair is the departure of a ride and the arrival of a ride,
-- so that the pairs of two rides are all that need looking at.
use Rattle.std.specs.Prelude.{refl, ◌⊎◌, not, ℕ, suc, pred, min, ◌≤◌, ◌<◌, T, leb, ltb, eqb}
use Rattle.std.proofs.Common.{subst, inl, inr, arith}
use Rattle.std.proofs.Math.Option.{Option, none, some}
use Rattle.std.proofs.Math.Nat.{le_refl}
use Rattle.std.proofs.Math.Dec.{leb→le, eqb→eq, ltb→lt, T_not, not_T}
use Rattle.journeys.specs.Service.{Service, GoodService}
use Rattle.journeys.specs.Journey.{Journey, one, more, Undominated}
use Rattle.journeys.specs.Tables.{Side, outs, ins, Tables, Entry}
use Rattle.journeys.specs.Rule.{Pivot, by_run, by_stop, Rule, ByRule}
use Rattle.journeys.proofs.PairLaws.{undominated_iff}
use Rattle.journeys.proofs.JourneyLaws.{between_iff, visits_iff, journey_later}
use Rattle.journeys.specs.Paths.{Via}
use Rattle.journeys.proofs.ReachLaws.{via_of_meet}
use Rattle.journeys.proofs.RuleLaws.{pivot_one, none_via}
use Rattle.journeys.proofs.TestLaws.{T_and, and_split, or_cases, or_split, t_same, t_any, any_of, all_of, ride_of_lem, t_ride, within_of, t_within}
use Rattle.journeys.specs.Tests.{and_then, anyb, allb, rideb, withinb}
use Rattle.journeys.specs.RuleTests.{First, Last, undominatedb, viab, some_viab, some_rideb, labelledb, pivotb, ruleb, RuleOn, sideb, setb, heldb, pairb}
use Rattle.journeys.specs.RuleTests.{soundb, fullb}

first_ride : {S : Service} {u v d a : ℕ} → Journey S u v d a → (i : ℕ) × First S u d i
first_ride (one i r) = (i, record { below = r.below; goes = r.goes; leaves = r.leaves })
first_ride (more i r h j) = (i, record { below = r.below; goes = r.goes; leaves = r.leaves })

last_ride : {S : Service} {u v d a : ℕ} → Journey S u v d a → (i : ℕ) × Last S v a i
last_ride (one i r) = (i, record { below = r.below; ends = r.ends; arrives = r.arrives })
last_ride (more i r h j) = last_ride j

module _ {S : Service} (G : GoodService S) where
  undominated_of : (u v d a : ℕ) → T (undominatedb S u v d a) → Undominated (Journey S u v) d a
  unfolding undominatedb
  undominated_of u v d a q =
      let s = and_split (withinb S u v d a) _ q in
      let s₁ = and_split (not (withinb S u v (suc d) a)) _ s.1 in
      (undominated_iff (Journey S u v) (λ e b j. journey_later G j) d a).1
      (within_of u v d a s.0, (λ w. T_not (withinb S u v (suc d) a) s₁.0 (t_within G w)), (λ w. T_not (withinb S u v d (pred a)) s₁.1 (t_within G w)))

  t_undominated : (u v d a : ℕ) → Undominated (Journey S u v) d a → T (undominatedb S u v d a)
  unfolding undominatedb
  t_undominated u v d a U =
      let s = (undominated_iff (Journey S u v) (λ e b j. journey_later G j) d a).0 U in
      T_and (withinb S u v d a) _ (t_within G s.0)
      (T_and (not (withinb S u v (suc d) a)) _ (not_T (withinb S u v (suc d) a) (λ x. s.1 (within_of u v (suc d) a x)))
      (not_T (withinb S u v d (pred a)) (λ x. s.2 (within_of u v d (pred a) x))))

  via_of : (u w v d a : ℕ) → Undominated (Journey S u v) d a → T (viab S u w v d a) → Via S u w v d a
  unfolding viab
  via_of u w v d a U q =
      let s = any_of S.slots _ q in
      let s₁ = and_split (eqb (S.ride s.0).to w) _ s.2 in
      let s₂ = and_split (withinb S u w d (S.ride s.0).arr) _ s₁.1 in
      via_of_meet U (record { first = within_of u w d (S.ride s.0).arr s₂.0; second = within_of w v (S.ride s.0).arr a s₂.1 })

  t_via : {u w v d a : ℕ} → Via S u w v d a → T (viab S u w v d a)
  unfolding viab
  t_via {u} {w} {v} {d} {a} s =
      let l = last_ride s.first in
      let i = l.0 in
      let r = l.1 in
      t_any S.slots _ i r.below (T_and (eqb (S.ride i).to w) _ (t_same (S.ride i).to w r.ends)
      (T_and (withinb S u w d (S.ride i).arr) _
      (t_within G (record { dep = d; arr = s.mid; has = s.first; after = le_refl d; before = omega (arith, r.arrives) }))
      (t_within G (record { dep = s.start; arr = a; has = s.second; after = omega (arith, r.arrives, s.meets); before = le_refl a }))))

  no_via : (u v d a n : ℕ) → T (not (some_viab S u v d a n)) → (w : ℕ) → w < n → ¬ (Via S u w v d a)
  unfolding some_viab
  no_via u v d a n q w h s = T_not (anyb n (λ w. viab S u w v d a)) q (t_any n (λ w. viab S u w v d a) w h (t_via s))

  t_labelled : {u v d a : ℕ} {p : Option ℕ} → Rule S u v d a p → T (labelledb S u v d a)
  unfolding labelledb some_viab
  t_labelled {u} {v} {d} {a} r =
      T_and (not (eqb u v)) _ (not_T (eqb u v) (λ e. r.apart (eqb→eq u v e))) (T_and (undominatedb S u v d a) _ (t_undominated u v d a r.best)
      (not_T (anyb (min u v) (λ w. viab S u w v d a)) (λ q.
      let s = any_of (min u v) _ q in
      none_via r s.0 (omega (arith, s.1)) (omega (arith, s.1)) (via_of u s.0 v d a r.best s.2))))

  pivot_of_lem : (u v d a : ℕ) (p : Option ℕ) → Undominated (Journey S u v) d a → T (pivotb S u v d a p) → Pivot S u v d a p
  unfolding pivotb some_rideb
  pivot_of_lem u v d a none U q = let s = any_of S.slots _ q in by_run s.0 (ride_of_lem s.0 u v d a s.2)
  pivot_of_lem u v d a (some w) U q =
      let s = and_split (not (some_rideb S u v d a)) _ q in
      let s₁ = and_split (viab S u w v d a) _ s.1 in
      by_stop w (λ i r. T_not (some_rideb S u v d a) s.0 (t_any S.slots (λ i. rideb S i u v d a) i r.below (t_ride r)))
      (between_iff.1 (via_of u w v d a U s₁.0))
      (λ x h b. no_via u v d a w s₁.1 x h (between_iff.0 b))

  pub rule_of : (u v d a : ℕ) (p : Option ℕ) → T (ruleb S u v d a p) → Rule S u v d a p
  unfolding ruleb labelledb
  rule_of u v d a p q =
      let s = and_split (labelledb S u v d a) _ q in
      let s₁ = and_split (not (eqb u v)) _ s.0 in
      let s₂ = and_split (undominatedb S u v d a) _ s₁.1 in
      let U = undominated_of u v d a s₂.0 in
      record {
        apart = λ e. T_not (eqb u v) s₁.0 (t_same u v e);
        best = U;
        none_above = λ w h k x. no_via u v d a (min u v) s₂.1 w (omega arith) ((visits_iff h k).0 x);
        pivot = pivot_of_lem u v d a p U s.1;
      }

module _ {S : Service} (G : GoodService S) (X : Tables) where
  side_of : (side : Side) (s h d a : ℕ) (p : Option ℕ) → T (sideb S side s h d a p) → RuleOn S side s h d a p
  unfolding sideb
  side_of outs s h d a p q = rule_of G s h d a p q
  side_of ins s h d a p q = rule_of G h s d a p q

  -- at label k itself, then at what an entry says of it
  set_of_lem : (side : Side) (s k : ℕ) → T (setb S X side s) → X.start side s ≤ k → k < X.end side s → (X.hub k < s) ×
      RuleOn S side s (X.hub k) (X.dep k) (X.arr k) (X.pivot k)
  unfolding setb
  set_of_lem side s k q low high =
      let t = or_split (ltb k (X.start side s)) _ (all_of (X.end side s) _ q k high)
      (not_T (ltb k (X.start side s)) (λ x. omega (arith, ltb→lt k (X.start side s) x))) in
      let t₁ = and_split (ltb (X.hub k) s) _ t in
      (ltb→lt (X.hub k) s t₁.0, side_of side s (X.hub k) (X.dep k) (X.arr k) (X.pivot k) t₁.1)

  held_of : (side : Side) (s h d a : ℕ) → T (heldb X side s h d a) → (k : ℕ) × Entry X side k s h d a (X.pivot k)
  unfolding heldb
  held_of side s h d a q =
      let t = and_split (ltb s X.stops) _ q in
      let t₁ = any_of (X.end side s) _ t.1 in
      let k = t₁.0 in
      let t₂ = and_split (leb (X.start side s) k) _ t₁.2 in
      let t₃ = and_split (eqb (X.hub k) h) _ t₂.1 in
      let t₄ = and_split (eqb (X.dep k) d) _ t₃.1 in (
        k,
        record {
          owner = ltb→lt s X.stops t.0;
          low = leb→le (X.start side s) k t₂.0;
          high = t₁.1;
          hub = eqb→eq (X.hub k) h t₃.0;
          dep = eqb→eq (X.dep k) d t₄.0;
          arr = eqb→eq (X.arr k) a t₄.1;
          pivot = refl;
        },
      )

  module _ (q : T (soundb S X)) (f : T (fullb S X)) where
    both_sides : (s : ℕ) → s < X.stops → T (setb S X outs s) × T (setb S X ins s)
    unfolding soundb
    both_sides s h = and_split (setb S X outs s) (λ _. setb S X ins s) (all_of X.stops (λ s. and_then (setb S X outs s) (λ _. setb S X ins s)) q s h)

    all_sound : (side : Side) (s : ℕ) → s < X.stops → T (setb S X side s)
    all_sound outs s h = (both_sides s h).0
    all_sound ins s h = (both_sides s h).1

    sound : {side : Side} {k s h d a : ℕ} {p : Option ℕ} → Entry X side k s h d a p → (h < s) × RuleOn S side s h d a p
    sound {side} {k} {s} e = rw (e.hub, e.dep, e.arr, e.pivot) at (set_of_lem side s k (all_sound side s e.owner) e.low e.high)

    two_rides : (i k : ℕ) → i < S.slots → k < S.slots → T (pairb S X (S.ride i).from (S.ride k).to (S.ride i).dep (S.ride k).arr)
    unfolding fullb
    two_rides i k h l =
        all_of S.slots (λ k. pairb S X (S.ride i).from (S.ride k).to (S.ride i).dep (S.ride k).arr)
        (all_of S.slots (λ i. allb S.slots (λ k. pairb S X (S.ride i).from (S.ride k).to (S.ride i).dep (S.ride k).arr)) f i h) k l

    pair_at : {u v d a i k : ℕ} → First S u d i → Last S v a k → T (pairb S X u v d a)
    pair_at {i = i} {k} x y = rw (x.goes, x.leaves, y.ends, y.arrives) at (two_rides i k x.below y.below)

    held : {u v d a : ℕ} {p : Option ℕ} → Rule S u v d a p → T (heldb X outs u v d a) ⊎ T (heldb X ins v u d a)
    unfolding pairb
    held {u} {v} {d} {a} r =
        let t = or_split (not (labelledb S u v d a)) _ (pair_at (first_ride r.best.has).1 (last_ride r.best.has).1)
        (not_T (not (labelledb S u v d a)) (λ n. T_not (labelledb S u v d a) n (t_labelled G r))) in
        or_cases (heldb X outs u v d a) _ t

    full_outs : {u v d a : ℕ} {p : Option ℕ} → v < u → Rule S u v d a p → (k : ℕ) × Entry X outs k u v d a p
    full_outs {u} {v} {d} {a} {p} h r = go (held r)
      where
        go : T (heldb X outs u v d a) ⊎ T (heldb X ins v u d a) → (k : ℕ) × Entry X outs k u v d a p
        go (inl t) = let e = held_of outs u v d a t in (e.0, subst (Entry X outs e.0 u v d a) (pivot_one (sound e.1).1.pivot r.pivot) e.1)
        go (inr t) = absurd (omega (arith, (sound (held_of ins v u d a t).1).0))

    full_ins : {u v d a : ℕ} {p : Option ℕ} → u < v → Rule S u v d a p → (k : ℕ) × Entry X ins k v u d a p
    full_ins {u} {v} {d} {a} {p} h r = go (held r)
      where
        go : T (heldb X outs u v d a) ⊎ T (heldb X ins v u d a) → (k : ℕ) × Entry X ins k v u d a p
        go (inl t) = absurd (omega (arith, (sound (held_of outs u v d a t).1).0))
        go (inr t) = let e = held_of ins v u d a t in (e.0, subst (Entry X ins e.0 v u d a) (pivot_one (sound e.1).1.pivot r.pivot) e.1)

    pub by_rule_of : ByRule S X
    by_rule_of = record {
      out_rule = λ u v d a p. ((λ e. sound e.1), (λ x. full_outs x.0 x.1));
      in_rule = λ u v d a p. ((λ e. sound e.1), (λ x. full_ins x.0 x.1));
    }
