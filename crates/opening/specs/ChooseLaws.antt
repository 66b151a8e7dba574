-- Laws of choosing: the turns of the search for the lowest hub, and that what is opened at the chosen stop is the rides of the answer.
use Rattle.std.specs.Prelude as std
use Rattle.std.specs.Bool.{Decides}
use Rattle.std.specs.Prelude.{ℕ, ◌+◌, ◌*◌, ◌≤◌, ◌<◌, ◌≡◌, refl, List, ◌++◌, Bool, true, false, get_or, None, Some}
use Rattle.std.proofs.Common.{sym, ap, subst, subst₂, ◌∙◌, arith, le_refl}
use Rattle.std.proofs.Math.Option.{Option, some}
use Rattle.std.proofs.Math.Decide.{dec_lt}
use Rattle.loops.specs.First.{FirstAt}
use Rattle.loops.specs.FirstLaws.{passed_none, passed_more, first_extend}
use Rattle.loops.specs.Tells.{Tells}
use Rattle.loops.specs.TellsLaws.{told_true, told_false}
use Rattle.loops.specs.DecideLaws.{least_one}
use Rattle.kinds.specs.Limits.{no_pivot}
use Rattle.kinds.specs.declared.Label as kinds
use Rattle.journeys.specs.Service.{Service}
use Rattle.journeys.specs.Tables.{outs, ins, Tables, Entry, of_out, of_in, Label, GoodTables, JoinAt}
use Rattle.journeys.specs.Rides as rides
use Rattle.journeys.specs.Rides.{Opens, both, Chosen}
use Rattle.journeys.proofs.SketchLaws.{entry_at, one_by_dep, one_by_arr}
use Rattle.journeys.proofs.RidesLaws.{parts}
use Rattle.journeys.specs.Paths.{Parts}
use Rattle.tables.specs.File.{tables_of, labels_of, label_at, pivot_of}
use Rattle.tables.specs.Read.{ReadsAs}
use Rattle.tables.specs.TablesLaws.{pivot_some, read_as, good_stops, good_tables}
use Rattle.label_sets.specs.Starts.{Started}
use Rattle.label_sets.specs.StartsLaws.{started_stops, started_few}
use Rattle.label_sets.specs.declared.Moment.TheVariants.{Leaving, Arriving}
use Rattle.label_sets.specs.Seek.{Past}
use Rattle.label_sets.specs.Sets.{FoundLabel, SpanIn}
use Rattle.label_sets.specs.SeekLaws.{past_lower}
use Rattle.label_sets.specs.SetsLaws.{outs_at, ins_at, set_bounds, stands_there, leaving_at}
use Rattle.opening.specs.Opening.{Listed, OpenedAs}
use Rattle.opening.specs.OpenLaws.{label_pivot}
use Rattle.opening.specs.Choosing.{Joins, JoinsAt, HubsTo, LowestHub, HubAs, Goes, by_label, by_hub, NoSketch, WayAs}

-- ---- one test: the label at the place was read as m

module _ {T : Tables} {l : kinds.Label} {d a place to : ℕ} {m : kinds.Label} (R : ReadsAs T place m) where
  pub other_hub : (m.hub ≡ l.hub → ⊥) → ¬ (Joins T l d a place to)
  other_hub n j = n (sym R.hub ∙ j.hub)

  pub other_arr : (m.arr ≡ a → ⊥) → ¬ (Joins T l d a place to)
  other_arr n j = n (sym R.arr ∙ j.arrives)

  pub too_soon : m.dep < l.arr → ¬ (Joins T l d a place to)
  too_soon lt j = omega (arith, R.dep, j.meets)

  pub do_join : l.dep ≡ d → place < to → m.hub ≡ l.hub → m.arr ≡ a → l.arr ≤ m.dep → Joins T l d a place to
  do_join f lt h q le = record { leaves = f; within = lt; hub = R.hub ∙ h; arrives = R.arr ∙ q; meets = omega (arith, R.dep) }

  -- the test of that label
  pub joins_told : l.dep ≡ d → place < to → {r : Bool} → Decides r ((m.hub ≡ l.hub) × (m.arr ≡ a) × (l.arr ≤ m.dep)) → Tells (Joins T l d a place to) r
  joins_told f lt D = record {
    holds = λ e. let x = D.0 e in do_join f lt x.0 x.1 x.2;
    fails = λ e j. let y = D.1 (sym R.hub ∙ j.hub, sym R.arr ∙ j.arrives, omega (arith, R.dep, j.meets)) in cc;
  }

-- ---- the loop over the out-labels of u

joins_at : {T : Tables} {u v d a h : ℕ} (J : JoinAt T u v d a h) → JoinsAt T v d a J.first
joins_at J =
    let x = J.out_label in
    let y = J.in_label in
    record {
      leaves = x.dep;
      second = J.second;
      low = y.low;
      high = y.high;
      hub = y.hub ∙ sym x.hub;
      arrives = y.arr;
      meets = omega (arith, x.arr, y.dep, J.meets);
    }

-- the sets' bounds were read of those written down
pub hubs_begin : {b : List ℕ} {n u v outFrom outTo inFrom inTo : ℕ} {starts : List ℕ} → Started b n starts → (u < n) × (v < n) → (d a : ℕ) →
    outFrom ≡ get_or starts (2 * u) 0 → outTo ≡ get_or starts (2 * u + 1) 0 → inFrom ≡ get_or starts (2 * v + 1) 0 → inTo ≡ get_or starts (2 * v + 1 + 1) 0 →
    HubsTo b n u v d a outFrom outTo inFrom inTo inFrom outFrom
hubs_begin R h d a e f g i =
    let O = outs_at R _ _ _ h.0 e f in
    let I = ins_at R _ _ _ h.1 g i in
    record {
      out_set = O;
      in_set = I;
      low = omega (arith, O.start);
      high = (set_bounds O).0;
      none = rw O.start passed_none;
      behind = λ j h k. rw I.start passed_none;
      place_high = (set_bounds I).0;
    }

module _ {b : List ℕ} {n u v d a outFrom outTo inFrom inTo place k : ℕ} (H : HubsTo b n u v d a outFrom outTo inFrom inTo place k) where
  good : GoodTables (tables_of b)
  good = good_tables H.out_set.file

  stop_told : {s : ℕ} → s < n → s < (tables_of b).stops
  stop_told lt = omega (arith, good_stops H.out_set.file)

  out_entry : (j : ℕ) → k ≤ j → j < outTo →
      Entry (tables_of b) outs j u ((tables_of b).hub j) ((tables_of b).dep j) ((tables_of b).arr j) ((tables_of b).pivot j)
  out_entry j le lt = entry_at (stop_told H.out_set.owner) (omega (arith, H.low)) (omega (arith, H.out_set.end))

  pub out_within : k < outTo → k < labels_of b
  out_within lt = omega (arith, (set_bounds H.out_set).1)

  pub in_within : inTo ≤ labels_of b
  in_within = (set_bounds H.in_set).1

  pub hubs_done : outTo ≤ k → (g : ℕ) → ¬ (JoinAt (tables_of b) u v d a g)
  hubs_done ge g K = H.none.none K.first K.out_label.low (omega (arith, K.out_label.high, H.out_set.end)) (joins_at K)

  -- label k was read as l, and m is the place where one with its hub is looked for
  module _ {m : ℕ} {l : kinds.Label} (lt : k < outTo) (e : l ≡ label_at b k) (F : FirstAt (Past (tables_of b) l.hub (Arriving a)) place inTo m) where
    label : ReadsAs (tables_of b) k l
    label = read_as b k e

    -- m is the place of label k among all in-labels of v
    whole : FirstAt (Past (tables_of b) ((tables_of b).hub k) (Arriving a)) ((tables_of b).start ins v) ((tables_of b).end ins v) m
    whole = rw H.in_set.end (first_extend (H.behind k (le_refl k) lt) (rw label.hub F))

    -- label k joins, if at all, with the label at that place
    joins_there : JoinsAt (tables_of b) v d a k → Joins (tables_of b) l d a m inTo
    joins_there J =
        let f = stands_there good (Arriving a) whole
        (record { owner = stop_told H.in_set.owner; low = J.low; high = J.high; hub = J.hub; dep = refl; arr = J.arrives; pivot = refl }) refl in
        record {
          leaves = sym label.dep ∙ J.leaves;
          within = omega (arith, J.high, H.in_set.end);
          hub = rw (← f) (J.hub ∙ label.hub);
          arrives = rw (← f) J.arrives;
          meets = rw (← f) (omega (arith, J.meets, label.arr));
        }

    pub hubs_again : {r : Bool} → Tells (Joins (tables_of b) l d a m inTo) r → r ≡ false → HubsTo b n u v d a outFrom outTo inFrom inTo m (k + 1)
    hubs_again t f = record {
      out_set = H.out_set;
      in_set = H.in_set;
      low = omega (arith, H.low);
      high = omega arith;
      none = passed_more H.none (λ J. told_false t f (joins_there J));
      behind = λ j h i. record {
        low = whole.passed.low;
        none = λ p x y q.
            let up = good.hubs_rise (out_entry k (le_refl k) lt) (out_entry j (omega arith) i) (omega arith) in
            whole.passed.none p x y (past_lower (tables_of b) (Arriving a) p up q);
      };
      place_high = F.high;
    }

    pub hub-found : {r : Bool} → Tells (Joins (tables_of b) l d a m inTo) r → r ≡ true → LowestHub (tables_of b) u v d a l.hub
    hub-found t f = record {
      join = record {
        first = k;
        second = m;
        mid = (tables_of b).arr k;
        start = (tables_of b).dep m;
        pivot₁ = (tables_of b).pivot k;
        pivot₂ = (tables_of b).pivot m;
        out_label = record {
          owner = stop_told H.out_set.owner;
          low = H.low;
          high = omega (arith, H.out_set.end);
          hub = label.hub;
          dep = label.dep ∙ J.leaves;
          arr = refl;
          pivot = refl;
        };
        in_label = record {
          owner = stop_told H.in_set.owner;
          low = whole.passed.low;
          high = omega (arith, J.within, H.in_set.end);
          hub = J.hub;
          dep = refl;
          arr = J.arrives;
          pivot = refl;
        };
        meets = omega (arith, J.meets, label.arr);
      };
      none_below = none';
    }
      where
        J : Joins (tables_of b) l d a m inTo
        J = told_true t f

        none' : (g : ℕ) → g < l.hub → ¬ (JoinAt (tables_of b) u v d a g)
        none' g h K = go (dec_lt K.first k) (dec_lt k K.first)
          where
            x : Entry (tables_of b) outs K.first u g d K.mid K.pivot₁
            x = K.out_label

            go : Dec (K.first < k) → Dec (k < K.first) → ⊥
            go (yes p) q = H.none.none K.first x.low p (joins_at K)
            go (no p) (yes q) = omega (arith, good.hubs_rise (out_entry k (le_refl k) lt) x q, label.hub)
            go (no p) (no q) = let i : K.first ≡ k = omega arith in omega (arith, ap (tables_of b).hub i, x.hub, label.hub)

-- ---- the stop where the answer is taken apart

module _ {T : Tables} {u v d a : ℕ} where
  pub way_label : {k : ℕ} {l : kinds.Label} → FoundLabel T u v (Leaving d) k l → l.arr ≡ a → Goes T u v d a l.pivot
  way_label {k} {l} f e = by_label (subst (λ b. Label T u v d b (pivot_of l.pivot)) e (k, leaving_at f))

  pub way-hub : ((q : Option ℕ) → ¬ (Label T u v d a q)) → (r : std.Option ℕ) → HubAs T u v d a r → WayAs T u v d a r
  way-hub n (Some h) x = by_hub n x
  way-hub n None x = record { no_label = n; no_join = x }

  -- no sketch has the pair, so no rides are chosen
  pub none_chosen : {S : Service} → NoSketch T u v d a → (l : List ℕ) → ¬ (Chosen S T u v d a l)
  none_chosen n l (rides.by_label p k o) = n.no_label p k
  none_chosen n l (rides.by_hub h f J g x y o o' e) = n.no_join h J

-- what is opened there is the rides of the answer
module _ {b : List ℕ} {n : ℕ} {room : List ℕ} (R : Started b n room) where
  tables_good : GoodTables (tables_of b)
  tables_good = good_tables R.file

  -- a hub is a stop
  hub_stop : {u v d a h : ℕ} → JoinAt (tables_of b) u v d a h → h ≡ no_pivot → ⊥
  hub_stop J e = omega (arith, tables_good.below J.out_label, J.out_label.owner, started_few R)

  pub way_in : {u v d a p : ℕ} → (u < n) × (v < n) → Goes (tables_of b) u v d a p → SpanIn n (record { from = u; to = v; dep = d; arr = a; pivot = p })
  way_in {p = p} h (by_label k) =
      record { from_stop = h.0; to_stop = h.1; pivot_stop = λ f. omega (arith, label_pivot tables_good p k f, started_stops R) }
  way_in h (by_hub f L) =
      record { from_stop = h.0; to_stop = h.1; pivot_stop = λ _. omega (arith, tables_good.below L.join.out_label, h.0) }

  module _ {S : Service} {u v d a p : ℕ} where
    join_parts : {l : List ℕ} (J : JoinAt (tables_of b) u v d a p) → Parts S (tables_of b) u p v d a l → ((q : Option ℕ) → ¬ (Label (tables_of b) u v d a q)) →
        ((g : ℕ) → g < p → ¬ (JoinAt (tables_of b) u v d a g)) → Chosen S (tables_of b) u v d a l
    join_parts J r n f =
        let x = one_by_dep tables_good r.first (J.first, of_out J.out_label) in
        let y = one_by_arr tables_good r.second (J.second, of_in J.in_label) in
        rides.by_hub p n J f r.rides₁ r.rides₂
        (subst₂ (λ e q. Opens S (tables_of b) u p d e q r.rides₁) x.0 x.1 r.opens₁)
        (subst₂ (λ e q. Opens S (tables_of b) p v e a q r.rides₂) y.0 y.1 r.opens₂) r.are

    opens_chosen : Goes (tables_of b) u v d a p → (l : List ℕ) → Opens S (tables_of b) u v d a (pivot_of p) l → Chosen S (tables_of b) u v d a l
    opens_chosen (by_label k) l o = rides.by_label (pivot_of p) k o
    opens_chosen (by_hub n L) l o = join_parts L.join (parts (rw (pivot_some p (hub_stop L.join)) at o)) n L.none_below

    pub chosen_opens : Goes (tables_of b) u v d a p → (l : List ℕ) → Chosen S (tables_of b) u v d a l → Opens S (tables_of b) u v d a (pivot_of p) l
    chosen_opens (by_label k) l (rides.by_label q k' o) = subst (λ z. Opens S (tables_of b) u v d a z l) (one_by_dep tables_good k' k).1 o
    chosen_opens (by_label k) l (rides.by_hub h n J f x y o o' e) = absurd (n (pivot_of p) k)
    chosen_opens (by_hub n L) l (rides.by_label q k o) = absurd (n q k)
    chosen_opens (by_hub n L) l (rides.by_hub h n' J f x y o o' e) =
        let i = least_one (record { it = h; has = J; none_before = f }) (record { it = p; has = L.join; none_before = L.none_below }) in
        rw (pivot_some p (hub_stop L.join), e)
        (subst (λ g. Opens S (tables_of b) u v d a (some g) (x ++ y)) i
        (both (J.first, of_out J.out_label) (J.second, of_in J.in_label) J.meets o o'))

    pub chosen_listed : Goes (tables_of b) u v d a p → {before after : List ℕ} {k : ℕ} →
        Listed (Opens S (tables_of b) u v d a (pivot_of p)) before after k → Listed (Chosen S (tables_of b) u v d a) before after k
    chosen_listed g L = record { rides = L.rides; are = opens_chosen g L.rides L.are; count = L.count; holds = L.holds }

  -- and where there are none, there are none of the answer
  pub chosen_opened : (S : Service) {u v d a p : ℕ} → Goes (tables_of b) u v d a p → (before after : List ℕ) (r : std.Option ℕ) →
      OpenedAs (Opens S (tables_of b) u v d a (pivot_of p)) before after r → OpenedAs (Chosen S (tables_of b) u v d a) before after r
  chosen_opened S g before after (Some k) L = chosen_listed g L
  chosen_opened S g before after None n = λ l h. n l (chosen_opens g l h)
