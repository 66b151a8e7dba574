-- The label rule: it is decided and gives one pivot; tables by the rule are accepted (L5), so demand 2 follows from demand 3; and none of
-- their labels can be left out (L7).
use Rattle.std.specs.Prelude.{◌≡◌, refl, ◌⊎◌, ◌≢◌, ◌↔◌, ℕ, min, ◌≤◌, ◌<◌}
use Rattle.std.proofs.Common.{sym, ap, subst, subst₂, ◌∙◌, inl, inr, arith}
use Rattle.std.proofs.Math.Option.{Option, none, some}
use Rattle.std.proofs.Math.Decide.{ℕ_discrete, dec_lt}
use Rattle.loops.specs.DecideLaws.{least, least_one}
use Rattle.loops.specs.Decide.{Least}
use Rattle.journeys.specs.declared.Criterion.{Criterion}
use Rattle.journeys.specs.Service.{Service, RideAt, GoodService}
use Rattle.journeys.specs.Journey.{Journey, one, more, Undominated, Within}
use Rattle.journeys.specs.Criteria.{Best, Nothing}
use Rattle.journeys.specs.Tables.{Side, outs, ins, Tables, Entry, of_out, of_in, Label, GoodTables, Sketch, single, joined}
use Rattle.journeys.specs.Rule.{Pivot, by_run, by_stop, Rule, ByRule}
use Rattle.journeys.specs.Check.{Halves, AllSupported, Accepted}
use Rattle.journeys.proofs.PairLaws.{same_pair}
use Rattle.journeys.proofs.JourneyLaws.{between_iff, visits_iff, via_first, via_second, not_start, not_end}
use Rattle.journeys.specs.Paths.{join, Via, Labelled, Split, TwoLabels, Part}
use Rattle.journeys.proofs.ReachLaws.{refined, dec_undominated, dec_via, lowest_via, dec_some_ride}
use Rattle.journeys.proofs.AcceptedLaws.{label_sound, sketch_sound, no_gap_iff, complete, accepted_best, accepted_nothing}

-- the pivot is one
pub pivot_one : {S : Service} {u v d a : ℕ} {p q : Option ℕ} → Pivot S u v d a p → Pivot S u v d a q → p ≡ q
pivot_one (by_run i r) (by_run j s) = refl
pivot_one (by_run i r) (by_stop w n s f) = absurd (n i r)
pivot_one (by_stop w n s f) (by_run i r) = absurd (n i r)
pivot_one (by_stop w n s f) (by_stop w' n' s' f') = ap some
    (least_one (record { it = w; has = s; none_before = f }) (record { it = w'; has = s'; none_before = f' }))

-- the rule's "no journey visits a stop above both" by journeys that meet there
pub none_via : {S : Service} {u v d a : ℕ} {p : Option ℕ} → Rule S u v d a p → (w : ℕ) → w < u → w < v → ¬ (Via S u w v d a)
none_via r w h k s = r.none_above w h k ((visits_iff h k).1 s)

module _ (S : Service) (G : GoodService S) where
  -- the halves of an undominated pair at a stop between can be taken undominated
  split : {u w v d a : ℕ} → Undominated (Journey S u v) d a → Via S u w v d a → Split S u w v d a
  split {u} {w} {v} {d} {a} U s = go (refined S G s.first) (refined S G s.second)
    where
      go : Within (Undominated (Journey S u w)) d s.mid → Within (Undominated (Journey S w v)) s.start a → Split S u w v d a
      go f g =
          let meets : f.arr ≤ g.dep = omega (arith, f.before, g.after, s.meets) in
          let same = same_pair U (join f.has.has meets g.has.has) f.after g.before in
          record {
            mid = f.arr;
            start = g.dep;
            meets = meets;
            first = subst (λ x. Undominated (Journey S u w) x f.arr) same.0 f.has;
            second = subst (λ x. Undominated (Journey S w v) g.dep x) same.1 g.has;
          }

  pub pivot_of_lem : {u v d a : ℕ} → Undominated (Journey S u v) d a → (p : Option ℕ) × Pivot S u v d a p
  pivot_of_lem {u} {v} {d} {a} U = go (dec_some_ride S G u v d a) U.has
    where
      low : ((i : ℕ) → ¬ (RideAt S i u v d a)) → Least (λ w. Via S u w v d a) → (p : Option ℕ) × Pivot S u v d a p
      low n l = (some l.it, by_stop l.it n (between_iff.1 l.has) (λ x h b. l.none_before x h (between_iff.0 b)))

      go : Dec ((i : ℕ) × (i < S.slots) × RideAt S i u v d a) → Journey S u v d a → (p : Option ℕ) × Pivot S u v d a p
      go (yes s) j = (none, by_run s.0 s.2)
      go (no n) (one i r) = absurd (n (i, r.below, r))
      go (no n) (more i r h j) = low (λ k q. n (k, q.below, q))
          (least (λ w. Via S u w v d a) (λ w. dec_via S G U w) _ (record { mid = _; start = _; meets = h; first = one i r; second = j }))

  pub labelled : {u v d a : ℕ} → u ≢ v → Undominated (Journey S u v) d a → ((w : ℕ) → w < u → w < v → ¬ (Via S u w v d a)) → Labelled S u v d a
  labelled n U f = let p = pivot_of_lem U in record {
    by = p.0;
    rule = record { apart = n; best = U; none_above = λ w h k x. f w h k ((visits_iff h k).0 x); pivot = p.1 };
  }

  -- at the lowest stop between, both halves have labels
  pub two_labels : {u w v d a : ℕ} → Undominated (Journey S u v) d a → Via S u w v d a → ((x : ℕ) → x < w → ¬ (Via S u x v d a)) → TwoLabels S u w v d a
  two_labels {u} {w} {v} {d} {a} U s f = go (split U s)
    where
      go : Split S u w v d a → TwoLabels S u w v d a
      go t = record {
        mid = t.mid;
        start = t.start;
        meets = t.meets;
        first = labelled (not_start G U s) t.first (λ x h k q. f x k (via_first q t.meets t.second.has));
        second = labelled (not_end G U s) t.second (λ x h k q. f x h (via_second t.first.has t.meets q));
      }

  -- the rule is decided: the label of a pair, or that it has none
  pub dec_rule : (u v d a : ℕ) → Dec (Labelled S u v d a)
  dec_rule u v d a = go (ℕ_discrete u v) (dec_undominated S G u v d a)
    where
      low : u ≢ v → Undominated (Journey S u v) d a →
          ((l : Least (λ w. Via S u w v d a)) × (l.it < min u v)) ⊎ ((w : ℕ) → w < min u v → ¬ (Via S u w v d a)) → Dec (Labelled S u v d a)
      low n U (inl l) = no (λ s. none_via s.rule l.0.it (omega (arith, l.1)) (omega (arith, l.1)) l.0.has)
      low n U (inr f) = yes (labelled n U (λ w h k. f w (omega arith)))

      go : Dec (u ≡ v) → Dec (Undominated (Journey S u v) d a) → Dec (Labelled S u v d a)
      go (yes e) x = no (λ s. s.rule.apart e)
      go (no n) (no x) = no (λ s. x s.rule.best)
      go (no n) (yes U) = low n U (lowest_via S G U (min u v))

module _ {S : Service} (G : GoodService S) {T : Tables} (R : ByRule S T) where
  pub label_rule : {u v d a : ℕ} {p : Option ℕ} → Label T u v d a p → Rule S u v d a p
  label_rule {u} {v} {d} {a} {p} (k, of_out e) = ((R.out_rule u v d a p).0 (k, e)).1
  label_rule {u} {v} {d} {a} {p} (k, of_in e) = ((R.in_rule u v d a p).0 (k, e)).1

  pub rule_label : {u v d a : ℕ} {p : Option ℕ} → Rule S u v d a p → Label T u v d a p
  rule_label {u} {v} {d} {a} {p} r = go (dec_lt v u)
    where
      go : Dec (v < u) → Label T u v d a p
      go (yes h) = let e = (R.out_rule u v d a p).1 (h, r) in (e.0, of_out e.1)
      go (no h) = let e = (R.in_rule u v d a p).1 (omega (arith, r.apart), r) in (e.0, of_in e.1)

  pub by_rule_supported : AllSupported S T
  by_rule_supported k u v d a none l = go (label_rule (k, l)).pivot
    where
      go : Pivot S u v d a none → (i : ℕ) × RideAt S i u v d a
      go (by_run i r) = (i, r)
  by_rule_supported k u v d a (some w) l = go (label_rule (k, l)).best (label_rule (k, l)).pivot
    where
      at : TwoLabels S u w v d a → Halves T u w v d a
      at t = record {
        mid = t.mid;
        start = t.start;
        pivot₁ = t.first.by;
        pivot₂ = t.second.by;
        first = rule_label t.first.rule;
        second = rule_label t.second.rule;
        meets = t.meets;
      }

      go : Undominated (Journey S u v) d a → Pivot S u v d a (some w) → Halves T u w v d a
      go U (by_stop w n b f) = at (two_labels S G U (between_iff.0 b) (λ x h q. f x h (between_iff.1 q)))

  -- every undominated pair of different stops has a sketch with exactly that pair
  pub by_rule_sketch : {u v d a : ℕ} → u ≢ v → Undominated (Journey S u v) d a → Sketch T u v d a
  by_rule_sketch {u} {v} {d} {a} n U = go (lowest_via S G U (min u v))
    where
      at : {w : ℕ} → w < min u v → TwoLabels S u w v d a → Sketch T u v d a
      at {w} h t =
          let x = (R.out_rule u w d t.mid t.first.by).1 (omega arith, t.first.rule) in
          let y = (R.in_rule w v t.start a t.second.by).1 (omega arith, t.second.rule) in
          joined w (record {
            first = x.0;
            second = y.0;
            mid = t.mid;
            start = t.start;
            pivot₁ = t.first.by;
            pivot₂ = t.second.by;
            out_label = x.1;
            in_label = y.1;
            meets = t.meets;
          })

      go : ((l : Least (λ w. Via S u w v d a)) × (l.it < min u v)) ⊎ ((w : ℕ) → w < min u v → ¬ (Via S u w v d a)) → Sketch T u v d a
      go (inl l) = at l.1 (two_labels S G U l.0.has l.0.none_before)
      go (inr f) = let l = labelled S G n U (λ w h k. f w (omega arith)) in single l.by (rule_label l.rule)

  pub by_rule_within : {u v d a : ℕ} → v ≢ u → Journey S u v d a → Within (Sketch T u v) d a
  by_rule_within {u} {v} {d} {a} n j = go (refined S G j)
    where
      go : Within (Undominated (Journey S u v)) d a → Within (Sketch T u v) d a
      go w = record { dep = w.dep; arr = w.arr; has = by_rule_sketch (λ e. n (sym e)) w.has; after = w.after; before = w.before }

  -- the rule's tables are accepted
  pub by_rule_accepted : GoodTables T → Accepted S T
  by_rule_accepted good = record {
    supported = by_rule_supported;
    no_gaps = λ i v h u x d a r n. (no_gap_iff good).1 (record {
      here = λ e. by_rule_within (λ f. n (e ∙ f)) (one i r);
      on = λ m c e s k. by_rule_within n (more i r k (sketch_sound good by_rule_supported s));
    });
  }

  -- demand 2: over the rule's tables the best sketch is the best among all journeys
  module _ (good : GoodTables T) (same : T.stops ≡ S.stops) {u v : ℕ} (apart : u ≢ v) (c : Criterion) where
    pub by_rule_best : (d a : ℕ) → Best (Sketch T u v) c d a ↔ Best (Journey S u v) c d a
    by_rule_best = accepted_best G good same (by_rule_accepted good) apart c

    pub by_rule_nothing : Nothing (Sketch T u v) c ↔ Nothing (Journey S u v) c
    by_rule_nothing = accepted_nothing G good same (by_rule_accepted good) apart c

-- L7: good tables whose labels are labels of the rule's and that are accepted have every label of the rule
module _ {S : Service} (G : GoodService S) {T P : Tables} (R : ByRule S T) (part : Part P T) (good : GoodTables P) (same : P.stops ≡ S.stops) where
  whole_label : {u v d a : ℕ} {p : Option ℕ} → Label P u v d a p → Label T u v d a p
  whole_label (k, of_out e) = let x = part.of_part (k, e) in (x.0, of_out x.1)
  whole_label (k, of_in e) = let x = part.of_part (k, e) in (x.0, of_in x.1)

  pub no_label_to_spare : Accepted S P → {u v d a : ℕ} {p : Option ℕ} → Label T u v d a p → Label P u v d a p
  no_label_to_spare ok {u} {v} {d} {a} {p} l = go (label_rule G R l)
    where
      exact : Undominated (Journey S u v) d a → Within (Sketch P u v) d a → Sketch P u v d a
      exact U w =
          let e = same_pair U (sketch_sound good ok.supported w.has) w.after w.before in
          subst₂ (Sketch P u v) e.0 e.1 w.has

      only : Rule S u v d a p → Sketch P u v d a → Label P u v d a p
      only r (single q k) = subst (Label P u v d a) (pivot_one (label_rule G R (whole_label k)).pivot r.pivot) k
      only r (joined h J) = absurd (none_via r h (good.below J.out_label) (good.below J.in_label) (record {
        mid = J.mid;
        start = J.start;
        meets = J.meets;
        first = label_sound good ok.supported (J.first, of_out J.out_label);
        second = label_sound good ok.supported (J.second, of_in J.in_label);
      }))

      go : Rule S u v d a p → Label P u v d a p
      go r = only r (exact r.best (complete G good same ok.no_gaps r.best.has (λ e. r.apart (sym e))))

-- L6, as far as it needs no bytes: two tables by the rule have the same labels
pub by_rule_same : {S : Service} {T P : Tables} → ByRule S T → ByRule S P → Part P T
by_rule_same {S} {T} {P} R Q = record { of_part = λ {side} {s} {h} {d} {a} {p} e. same side s h d a p e }
  where
    same : (side : Side) (s h d a : ℕ) (p : Option ℕ) → ((k : ℕ) × Entry P side k s h d a p) → (k : ℕ) × Entry T side k s h d a p
    same outs s h d a p e = (R.out_rule s h d a p).1 ((Q.out_rule s h d a p).0 e)
    same ins s h d a p e = (R.in_rule h s d a p).1 ((Q.in_rule h s d a p).0 e)
