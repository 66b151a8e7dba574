-- Bytes with the right frame that hold all labels of the rule are good tables, and theirs are the rule's labels.
use Rattle.std.specs.Prelude.{ℕ, zero, suc, ◌+◌, ◌*◌, ◌-◌, ◌/◌, ◌%◌, min, ◌≤◌, ◌<◌, ◌≡◌, refl, List, ◌⊎◌, ◌≢◌, ◌↔◌}
use Rattle.std.proofs.Common.{sym, ap, ap₂, subst, subst₂, ◌∙◌, inl, inr, le_refl, arith}
use Rattle.std.proofs.Math.Path.{subst₃}
use Rattle.std.proofs.Math.Option.{Option, none, some}
use Rattle.std.proofs.Math.Decide.{ℕ_discrete, dec_lt}
use Rattle.loops.specs.Rows.{Among}
use Rattle.kinds.specs.Limits.{most_stops, most_labels, no_pivot}
use Rattle.kinds.specs.Kinds.{GoodPivot}
use Rattle.journeys.specs.Service.{Service, GoodService}
use Rattle.journeys.specs.Tables.{Side, outs, ins, Entry}
use Rattle.journeys.specs.Rule.{Pivot, by_stop, Rule, ByRule}
use Rattle.journeys.specs.Count.{Timed, PairLabels, RuleCount}
use Rattle.journeys.proofs.JourneyLaws.{journey_later, journey_last, journey_from, journey_to, between_iff, not_start, not_end}
use Rattle.journeys.specs.Paths.{Via}
use Rattle.journeys.proofs.RuleLaws.{none_via}
use Rattle.tables.specs.File.{set_of, owner_of, count_of, start_of, end_of, labels_of, label_at, pivot_of, tables_of}
use Rattle.tables.specs.TablesLaws.{pivot_some, pivot_is, set_below, set_owner}
use Rattle.tables.specs.Good.{After, higher, later, LabelGood, GoodFile}
use Rattle.counts.specs.Sums.{sum}
use Rattle.counts.proofs.SumLaws.{sum_none, sum_suc, rows_sum, rows_all}
use Rattle.builder.specs.Places.{in_group, in_set, group_start, set_for, hub_for, pair_start, Stands}
use Rattle.builder.specs.PlaceLaws.{set_out, set_in, group_out, group_in, pair_group, pair_below, pair_of, start_below, group_within, groups_rise}
use Rattle.builder.specs.PlaceLaws.{set_located, sets_all}
use Rattle.builder.specs.Framed.{Framed, Holds}

-- a stop has no labels to itself
pub no_itself : {S : Service} {u c : ℕ} {row : ℕ → Timed} → PairLabels S u u c row → c ≡ 0
no_itself {c = c} p = elim (ℕ_discrete c 0) [ yes e ↦ e | no n ↦ absurd ((p.sound 0 (omega arith)).apart refl) ]

-- the sets begin where the counts before them end
pub starts_are : {c : ℕ → ℕ → ℕ} {n : ℕ} {b : List ℕ} → Framed c n b → (set : ℕ) → set ≤ 2 * n → start_of b set ≡ sum (in_set c) set
unfolding start_of
starts_are {c} F zero h = sym (sum_none (in_set c))
starts_are {c} F (suc set) h = omega (arith, starts_are F set (omega arith), F.counts set (omega arith), sum_suc (in_set c) set)

module _ {S : Service} (G : GoodService S) {u v d a : ℕ} {p : Option ℕ} (r : Rule S u v d a p) where
  -- the pivot of a label, by stop numbers
  pub pivot_numbers : (w : ℕ) → p ≡ some w → (min u v < w) × (w < S.stops) × (w ≢ u) × (w ≢ v)
  pivot_numbers w e = go (subst (Pivot S u v d a) e r.pivot)
    where
      at : Via S u w v d a → (min u v < w) × (w < S.stops) × (w ≢ u) × (w ≢ v)
      at s =
          let n = not_start G r.best s in
          let m = not_end G r.best s in
          (high n m (dec_lt w u) (dec_lt w v), journey_to G s.first, (λ z. n (sym z)), m)
        where
          high : u ≢ w → w ≢ v → Dec (w < u) → Dec (w < v) → min u v < w
          high n m (yes h) (yes k) = absurd (none_via r w h k s)
          high n m (yes h) (no k) = omega arith
          high n m (no h) k = omega arith

      go : Pivot S u v d a (some w) → (min u v < w) × (w < S.stops) × (w ≢ u) × (w ≢ v)
      go (by_stop w n b f) = at (between_iff.0 b)

-- later labels of a pair arrive later
arrives_later : {S : Service} {u v d a e b : ℕ} {p q : Option ℕ} → Rule S u v d a p → Rule S u v e b q → d < e → a < b
arrives_later {a = a} {e = e} {b = b} x y h = elim (dec_lt a b) [ yes l ↦ l | no l ↦ absurd (x.best.no_later e b y.best.has h (omega arith)) ]

module _ {S : Service} (G : GoodService S) (few : S.stops ≤ most_stops) (some-stops : 1 ≤ S.stops) {N : ℕ} (R : RuleCount S N) (few_labels : N ≤ most_labels)
    {b : List ℕ}
    (F : Framed R.count S.stops b) (H : (u v : ℕ) → u < S.stops → v < S.stops → u ≢ v → Holds R.count R.row b u v 0) where
  abbrev n : ℕ
  n = S.stops

  abbrev c : ℕ → ℕ → ℕ
  c = R.count

  -- label i of a set is label j of a pair of stops
  record In (set i : ℕ) : Type 0 where
    from : ℕ
    to : ℕ
    number : ℕ
    from_stop : from < n
    to_stop : to < n
    apart : from ≢ to
    within : number < c from to
    set_is : set_for from to ≡ set
    place : start_of b set + i ≡ pair_start c from to + number

  located : (set i : ℕ) → set < 2 * n → i < count_of b set → In set i
  located set i l k = go (set_located c set i (omega (arith, F.counts set l))) (ℕ_discrete (set % 2) 0)
    where
      go : (h : ℕ) × (h < set / 2) × (j : ℕ) × (j < in_group c set h) × (sum (in_set c) set + i ≡ group_start c set h + j) → Dec (set % 2 ≡ 0) → In set i
      go (h, a, j, g, e) (yes z) =
          let s : set ≡ 2 * (set / 2) = omega arith in
          let m : min (set / 2) h ≡ h = omega arith in
          record {
            from = set / 2;
            to = h;
            number = j;
            from_stop = omega arith;
            to_stop = omega arith;
            apart = λ y. omega arith;
            within = omega (arith, ap (λ x. in_group c x h) s, group_out c (set / 2) h);
            set_is = set_out a ∙ sym s;
            place = omega (
              arith,
              starts_are F set (omega arith),
              ap (λ x. group_start c x h) (sym (set_out a ∙ sym s)),
              ap
                  (group_start c (set_for (set / 2) h)) m,
            );
          }
      go (h, a, j, g, e) (no z) =
          let s : set ≡ 2 * (set / 2) + 1 = omega arith in
          let m : min h (set / 2) ≡ h = omega arith in
          let f : set_for h (set / 2) ≡ 2 * (set / 2) + 1 = set_in {u = h} {v = set / 2} (omega arith) in
          record {
            from = h;
            to = set / 2;
            number = j;
            from_stop = omega arith;
            to_stop = omega arith;
            apart = λ y. omega arith;
            within = omega (arith, ap (λ x. in_group c x h) s, group_in c (set / 2) h);
            set_is = f ∙ sym s;
            place = omega (arith, starts_are F set (omega arith), ap (λ x. group_start c x h) (sym (f ∙ sym s)), ap (group_start c (set_for h (set / 2))) m);
          }

  module _ {set i : ℕ} (x : In set i) where
    abbrev timed : Timed
    timed = R.row x.from x.to x.number

    stands : Stands b (start_of b set + i) (hub_for x.from x.to) timed
    stands = subst (λ k. Stands b k (hub_for x.from x.to) timed) (sym x.place) (H x.from x.to x.from_stop x.to_stop x.apart x.number (omega arith) x.within)

    rule : Rule S x.from x.to timed.dep timed.arr timed.pivot
    rule = (R.labels x.from x.to x.from_stop x.to_stop).sound x.number x.within

    -- the owner is the higher of the two stops
    owner : ((owner_of set ≡ x.from) × (x.to < x.from)) ⊎ ((owner_of set ≡ x.to) × (x.from < x.to))
    owner = go (dec_lt x.to x.from)
      where
        go : Dec (x.to < x.from) → ((owner_of set ≡ x.from) × (x.to < x.from)) ⊎ ((owner_of set ≡ x.to) × (x.from < x.to))
        go (yes h) = inl (omega (arith, sym (set_out h) ∙ x.set_is), h)
        go (no h) = inr (omega (arith, sym (set_in {u = x.from} {v = x.to} (omega arith)) ∙ x.set_is), omega (arith, x.apart))

    good : LabelGood n (owner_of set) (label_at b (start_of b set + i))
    good = record {
      low = low owner;
      later = omega (arith, stands.dep, stands.arr, journey_later G rule.best.has);
      last = omega (arith, stands.arr, journey_last G rule.best.has);
      pivoted = pivots timed.pivot stands.pivot (pivot_numbers G rule);
    }
      where
        low : ((owner_of set ≡ x.from) × (x.to < x.from)) ⊎ ((owner_of set ≡ x.to) × (x.from < x.to)) → (label_at b (start_of b set + i)).hub < owner_of set
        low (inl e) = omega (arith, stands.hub)
        low (inr e) = omega (arith, stands.hub)

        other : (w : ℕ) → w ≢ x.from → w ≢ x.to → w ≡ owner_of set → ((owner_of set ≡ x.from) × (x.to < x.from)) ⊎ ((owner_of set ≡ x.to) × (x.from < x.to)) → ⊥
        other w p q e (inl o) = p (e ∙ o.0)
        other w p q e (inr o) = q (e ∙ o.0)

        pivots : (p : Option ℕ) → pivot_of (label_at b (start_of b set + i)).pivot ≡ p →
            ((w : ℕ) → p ≡ some w → (min x.from x.to < w) × (w < n) × (w ≢ x.from) × (w ≢ x.to)) →
            ((label_at b (start_of b set + i)).pivot ≡ no_pivot) ⊎ GoodPivot n (owner_of set) (label_at b (start_of b set + i)).hub
            (label_at b (start_of b set + i)).pivot
        pivots none e f = inl (is_none (ℕ_discrete (label_at b (start_of b set + i)).pivot no_pivot))
          where
            is_none : Dec ((label_at b (start_of b set + i)).pivot ≡ no_pivot) → (label_at b (start_of b set + i)).pivot ≡ no_pivot
            is_none (yes z) = z
            is_none (no z) = let y = sym e ∙ pivot_some _ z in absurd cc
        pivots (some w) e f =
            let (q, z) = pivot_is (label_at b (start_of b set + i)).pivot w e in
            let (g, l, p, r) = f w refl in
            inr (record { above = omega (arith, stands.hub); below = omega arith; other = λ y. other w p r (sym q ∙ y) owner })

  -- labels of one set rise
  after : {set i j : ℕ} → In set i → In set j → j ≡ suc i → After (label_at b (start_of b set + i)) (label_at b (start_of b set + j))
  after {set} {i} {j} x y e = go (dec_lt (hub_for x.from x.to) (hub_for y.from y.to)) (dec_lt (hub_for y.from y.to) (hub_for x.from x.to))
    where
      same : set_for x.from x.to ≡ set_for y.from y.to
      same = x.set_is ∙ sym y.set_is

      lower : hub_for y.from y.to < hub_for x.from x.to → ⊥
      lower l =
          omega (
            arith,
            groups_rise c (set_for y.from y.to) (hub_for y.from y.to) (hub_for x.from x.to) l,
            pair_group c y.apart,
            y.within,
            ap (λ s. group_start c s (hub_for x.from x.to)) same,
            x.place,
            y.place,
          )

      one : hub_for x.from x.to ≡ hub_for y.from y.to → After (label_at b (start_of b set + i)) (label_at b (start_of b set + j))
      one h =
          let (p, q) = pair_of same h in
          let number : y.number ≡ suc x.number = omega (arith, x.place, y.place, ap₂ (pair_start c) p q) in
          let row : R.row y.from y.to y.number ≡ R.row x.from x.to (suc x.number) = rw (p, q, number) in
          let within : suc x.number < c x.from x.to = omega (arith, y.within, ap₂ c p q) in
          let L = R.labels x.from x.to x.from_stop x.to_stop in
          let dep = L.rises x.number (suc x.number) (omega arith) within in
          let arr = arrives_later (rule x) (L.sound (suc x.number) within) dep in
          later (omega (arith, (stands x).hub, (stands y).hub))
          (omega (arith, (stands x).dep, (stands y).dep, ap (λ (t : Timed). t.dep) row))
          (omega (arith, (stands x).arr, (stands y).arr, ap (λ (t : Timed). t.arr) row))

      go : Dec (hub_for x.from x.to < hub_for y.from y.to) → Dec (hub_for y.from y.to < hub_for x.from x.to) →
          After (label_at b (start_of b set + i)) (label_at b (start_of b set + j))
      go (yes l) d = higher (omega (arith, (stands x).hub, (stands y).hub))
      go (no l) (yes d) = absurd (lower d)
      go (no l) (no d) = one (omega arith)

  labels_are : labels_of b ≡ N
  labels_are =
      ap (λ m. start_of b (2 * m)) F.stops ∙ starts_are F (2 * n) (le_refl (2 * n)) ∙ sets_all c n (λ u h. no_itself (R.labels u u h h))
      ∙ sym (rows_sum c n n) ∙ sym (rows_all c n) ∙ sym R.are

  pub rule_file : GoodFile b n
  rule_file = record {
    mark = F.mark;
    some = some-stops;
    room = record {
      contents = record { stops = F.stops; few = few; fits = omega (arith, F.long) };
      few_labels = omega (arith, labels_are);
      exact = omega (arith, F.long, starts_are F (2 * n) (le_refl (2 * n)), ap (λ m. start_of b (2 * m)) F.stops);
    };
    labels = λ set i l k. record { alone = good (located set i l k); after = λ h. one_before set i l k h };
  }
    where
      one_before : (set i : ℕ) → set < 2 * n → i < count_of b set → 0 < i → After (label_at b (start_of b set + i - 1)) (label_at b (start_of b set + i))
      one_before set i l k h =
          let e : start_of b set + (i - 1) ≡ start_of b set + i - 1 = omega arith in
          subst (λ x. After (label_at b x) (label_at b (start_of b set + i))) e (after (located set (i - 1) l (omega arith)) (located set i l k) (omega arith))

  -- an entry of the tables is a label of the rule
  record Ruled (side : Side) (s h d a : ℕ) (p : Option ℕ) : Type 0 where
    below : h < s
    from : ℕ
    to : ℕ
    set_is : set_for from to ≡ set_of side s
    hub_is : hub_for from to ≡ h
    rule : Rule S from to d a p

  entry_ruled : {side : Side} {k s h d a : ℕ} {p : Option ℕ} → Entry (tables_of b) side k s h d a p → Ruled side s h d a p
  unfolding tables_of
  entry_ruled {side} {k} {s} {h} {d} {a} {p} e =
      go (located (set_of side s) (k - start_of b (set_of side s)) (set_below side s n (omega (arith, e.owner, F.stops))) (omega (arith, e.low, e.high)))
    where
      place : start_of b (set_of side s) + (k - start_of b (set_of side s)) ≡ k
      place = omega (arith, e.low)

      go : In (set_of side s) (k - start_of b (set_of side s)) → Ruled side s h d a p
      go x =
          let t = subst (λ m. Stands b m (hub_for x.from x.to) (R.row x.from x.to x.number)) place (stands x) in
          let g = subst₂ (λ m o. LabelGood n o (label_at b m)) place (set_owner side s) (good x) in
          record {
            below = omega (arith, g.low, e.hub);
            from = x.from;
            to = x.to;
            set_is = x.set_is;
            hub_is = sym t.hub ∙ e.hub;
            rule = subst₃ (Rule S x.from x.to) (sym t.dep ∙ e.dep) (sym t.arr ∙ e.arr) (sym t.pivot ∙ e.pivot) (rule x);
          }

  -- and each label of the rule is an entry
  record Placed (set h d a : ℕ) (p : Option ℕ) : Type 0 where
    place : ℕ
    low : start_of b set ≤ place
    high : place < end_of b set
    hub : (label_at b place).hub ≡ h
    dep : (label_at b place).dep ≡ d
    arr : (label_at b place).arr ≡ a
    pivot : pivot_of (label_at b place).pivot ≡ p

  placed : {u v d a : ℕ} {p : Option ℕ} → set_for u v < 2 * n → Rule S u v d a p → Placed (set_for u v) (hub_for u v) d a p
  placed {u} {v} {d} {a} {p} l r = go ((R.labels u v us vs).full d a p r)
    where
      us : u < n
      us = journey_from G r.best.has

      vs : v < n
      vs = journey_to G r.best.has

      go : Among (R.row u v) (c u v) (record { dep = d; arr = a; pivot = p }) → Placed (set_for u v) (hub_for u v) d a p
      go (i, k, e) =
          let t = H u v us vs r.apart i (omega arith) k in
          let w = group_within c (set_for u v) (hub_for u v) i (pair_below c r.apart) (omega (arith, pair_group c r.apart)) in
          record {
            place = pair_start c u v + i;
            low = omega (arith, starts_are F (set_for u v) (omega arith), start_below c (set_for u v) (hub_for u v));
            high = omega (arith, w, starts_are F (set_for u v) (omega arith), F.counts (set_for u v) l);
            hub = t.hub;
            dep = t.dep ∙ ap (λ (x : Timed). x.dep) e;
            arr = t.arr ∙ ap (λ (x : Timed). x.arr) e;
            pivot = t.pivot ∙ ap (λ (x : Timed). x.pivot) e;
          }

  entry_of : {side : Side} {s h d a : ℕ} {p : Option ℕ} → s < n → Placed (set_of side s) h d a p → (k : ℕ) × Entry (tables_of b) side k s h d a p
  unfolding tables_of
  entry_of l x = (x.place, record { owner = omega (arith, F.stops); low = x.low; high = x.high; hub = x.hub; dep = x.dep; arr = x.arr; pivot = x.pivot })

  out_rule : (u v d a : ℕ) (p : Option ℕ) → ((k : ℕ) × Entry (tables_of b) outs k u v d a p) ↔ ((v < u) × Rule S u v d a p)
  out_rule u v d a p = (to, back)
    where
      to : ((k : ℕ) × Entry (tables_of b) outs k u v d a p) → (v < u) × Rule S u v d a p
      to (k, e) =
          let x = entry_ruled e in
          let l = x.below in
          let m : min u v ≡ v = omega arith in
          let (y, z) = pair_of (x.set_is ∙ sym (set_out l)) (x.hub_is ∙ sym m) in
          (l, subst₂ (λ s t. Rule S s t d a p) y z x.rule)

      back : (v < u) × Rule S u v d a p → (k : ℕ) × Entry (tables_of b) outs k u v d a p
      back (l, r) =
          let us = journey_from G r.best.has in
          let m : min u v ≡ v = omega arith in
          let e = set_out l in
          entry_of us (subst₂ (λ s h. Placed s h d a p) e m (placed (omega (arith, e)) r))

  in_rule : (u v d a : ℕ) (p : Option ℕ) → ((k : ℕ) × Entry (tables_of b) ins k v u d a p) ↔ ((u < v) × Rule S u v d a p)
  in_rule u v d a p = (to, back)
    where
      to : ((k : ℕ) × Entry (tables_of b) ins k v u d a p) → (u < v) × Rule S u v d a p
      to (k, e) =
          let x = entry_ruled e in
          let l = x.below in
          let m : min u v ≡ u = omega arith in
          let (y, z) = pair_of (x.set_is ∙ sym (set_in {u = u} {v = v} (omega arith))) (x.hub_is ∙ sym m) in
          (l, subst₂ (λ s t. Rule S s t d a p) y z x.rule)

      back : (u < v) × Rule S u v d a p → (k : ℕ) × Entry (tables_of b) ins k v u d a p
      back (l, r) =
          let vs = journey_to G r.best.has in
          let m : min u v ≡ u = omega arith in
          let e = set_in {u = u} {v = v} (omega arith) in
          entry_of vs (subst₂ (λ s h. Placed s h d a p) e m (placed (omega (arith, e)) r))

  pub rule_by : ByRule S (tables_of b)
  rule_by = record { out_rule = out_rule; in_rule = in_rule }
