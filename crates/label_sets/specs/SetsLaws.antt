-- Laws of what is looked up in the sets.
use Rattle.std.specs.Prelude as std
use Rattle.std.specs.Prelude.{ℕ, ◌+◌, ◌*◌, ◌≤◌, ◌<◌, ◌≡◌, refl, List, Bool, true, false, get_or, None, Some}
use Rattle.std.proofs.Common.{sym, ap, subst, ◌∙◌, inl, inr, arith, le_of_lt}
use Rattle.std.proofs.Math.Option.{Option}
use Rattle.std.proofs.Math.Nat.{min-eq_left, min-eq_right}
use Rattle.std.proofs.Math.Decide.{dec_lt, ℕ_discrete}
use Rattle.loops.specs.First.{FirstAt}
use Rattle.loops.specs.Tells.{Tells}
use Rattle.loops.specs.TellsLaws.{told_true, told_false}
use Rattle.kinds.specs.declared.Label as kinds
use Rattle.journeys.specs.Tables.{Side, outs, ins, Tables, Entry, LabelAt, of_out, of_in, Label, GoodTables, LabelWith}
use Rattle.journeys.specs.Check.{Halves}
use Rattle.journeys.proofs.SketchLaws.{entry_at, number_by_dep, one_by_dep, one_by_arr}
use Rattle.tables.specs.File.{set_of, labels_of, label_at, pivot_of, tables_of}
use Rattle.tables.specs.TablesLaws.{pivot_one, same_label, read_as, good_stops, tables_within, good_tables}
use Rattle.label_sets.specs.Starts.{Started}
use Rattle.label_sets.specs.StartsLaws.{set-start, set_end, set_rising}
use Rattle.label_sets.specs.declared.Moment.{Moment}
use Rattle.label_sets.specs.declared.Moment.TheVariants.{Leaving, Arriving}
use Rattle.label_sets.specs.Seek.{Exactly, NotBefore, Past, AtLabel}
use Rattle.label_sets.specs.declared.Span.{Span}
use Rattle.label_sets.specs.declared.Meeting.{Meeting}
use Rattle.label_sets.specs.Sets.{SetAt, FoundInSet, SoughtIn, FoundLabel, SoughtAs, MeetAt, PartedAs}

-- ---- the place that was found, in one set of good tables

exactly_not_before : (m : Moment) (d a : ℕ) → Exactly m d a → NotBefore m d a
exactly_not_before (Leaving t) d a e = omega arith
exactly_not_before (Arriving t) d a e = omega arith

module _ {T : Tables} (G : GoodTables T) {side : Side} {s hub : ℕ} where
  -- of one hub the minutes rise: a label with this moment is not after one that is not before it, unless that one has the moment too
  rising : (m : Moment) {i k d e a b : ℕ} {p q : Option ℕ} → Entry T side k s hub d a p → Entry T side i s hub e b q → k < i → NotBefore m d a →
      ¬ (Exactly m e b)
  rising (Leaving t) x y lt h f = omega (arith, G.deps_rise x y lt)
  rising (Arriving t) x y lt h f = omega (arith, G.arrs_rise x y lt)

  -- a label with this hub and this moment stands at the place that was found
  pub stands_there : (m : Moment) {k i d a : ℕ} {p : Option ℕ} → FirstAt (Past T hub m) (T.start side s) (T.end side s) k → Entry T side i s hub d a p →
      Exactly m d a → i ≡ k
  stands_there m {k} {i} {d} {a} F x f = go (dec_lt i k) (dec_lt k i)
    where
      after : k < i → Past T hub m k → ⊥
      after lt (inl h) = omega (arith, G.hubs_rise (entry_at x.owner F.passed.low (omega (arith, x.high))) x lt)
      after lt (inr h) =
          rising m (subst (λ g. Entry T side k s g (T.dep k) (T.arr k) (T.pivot k)) h.0
          (entry_at x.owner F.passed.low (omega (arith, x.high)))) x lt h.1 f

      go : Dec (i < k) → Dec (k < i) → i ≡ k
      go (yes lt) z = absurd (F.passed.none i x.low lt (inr (x.hub, rw (x.dep, x.arr) (exactly_not_before m d a f))))
      go (no l) (yes lt) = absurd (after lt (F.here (omega (arith, x.high))))
      go (no l) (no h) = omega arith

  -- and the labels that come after such a place are the last of the set
  not_before_rises : (m : Moment) {i k d e a b : ℕ} {p q : Option ℕ} → Entry T side i s hub d a p → Entry T side k s hub e b q → i < k → NotBefore m d a →
      NotBefore m e b
  not_before_rises (Leaving t) x y lt h = omega (arith, G.deps_rise x y lt)
  not_before_rises (Arriving t) x y lt h = omega (arith, G.arrs_rise x y lt)

  pub past_rises : (m : Moment) → s < T.stops → (i k : ℕ) → T.start side s ≤ i → i < k → k < T.end side s → Past T hub m i → Past T hub m k
  past_rises m own i k le lt h p = go p
    where
      entry : (j : ℕ) → T.start side s ≤ j → j < T.end side s → Entry T side j s (T.hub j) (T.dep j) (T.arr j) (T.pivot j)
      entry j a b = entry_at own a b

      with_hub : (j : ℕ) → T.start side s ≤ j → j < T.end side s → T.hub j ≡ hub → Entry T side j s hub (T.dep j) (T.arr j) (T.pivot j)
      with_hub j a b e = subst (λ g. Entry T side j s g (T.dep j) (T.arr j) (T.pivot j)) e (entry j a b)

      up : T.hub i ≤ T.hub k
      up = G.hubs_rise (entry i le (omega arith)) (entry k (omega arith) h) lt

      go : Past T hub m i → Past T hub m k
      go (inl x) = inl (omega (arith, up))
      go (inr x) = elim (ℕ_discrete (T.hub k) hub) [
        | yes e ↦ inr (e, not_before_rises m (with_hub i le (omega arith) x.0) (with_hub k (omega arith) h e) lt x.1)
        | no n ↦ inl (omega (arith, up, x.0))
      ]

  -- so there is none where none stands at that place
  pub none_there : (m : Moment) {k : ℕ} → FirstAt (Past T hub m) (T.start side s) (T.end side s) k →
      (k < T.end side s → T.hub k ≡ hub → ¬ (Exactly m (T.dep k) (T.arr k))) → SoughtIn T side s hub m None
  none_there m {k} F off i d a p x f =
      let e = stands_there m F x f in
      off (omega (arith, x.high)) (rw (← e) x.hub) (rw (← e, x.dep, x.arr) f)

-- an owner is a stop of the tables
pub set_owned : {b : List ℕ} {n : ℕ} {side : Side} {s from to : ℕ} → SetAt b n side s from to → s < (tables_of b).stops
set_owned A = omega (arith, A.owner, good_stops A.file)

pub set_rises : {b : List ℕ} {n : ℕ} {side : Side} {s from to hub : ℕ} (m : Moment) → SetAt b n side s from to →
    (i k : ℕ) → from ≤ i → i < k → k < to → Past (tables_of b) hub m i → Past (tables_of b) hub m k
set_rises {b} {side = side} {s} m A i k le lt h =
    past_rises (good_tables A.file) {side = side} {s = s} m (set_owned A) i k (omega (arith, A.start)) lt
    (omega (arith, A.end))

-- what the search in a set says of it, where place k was found between the set's bounds
module _ {b : List ℕ} {n : ℕ} {side : Side} {s from to hub : ℕ} (m : Moment) {k : ℕ} (A : SetAt b n side s from to)
    (F : FirstAt (Past (tables_of b) hub m) from to k) where
  in_set : FirstAt (Past (tables_of b) hub m) ((tables_of b).start side s) ((tables_of b).end side s) k
  in_set = rw (A.start, A.end) F

  pub past_end : to ≤ k → SoughtIn (tables_of b) side s hub m None
  past_end h = none_there (good_tables A.file) m in_set (λ lt e. absurd (omega (arith, A.end)))

  -- label k was read as l, and the test of l answered r
  module _ (l : kinds.Label) {r : Bool} (e : l ≡ label_at b k) (t : Tells (AtLabel l hub m) r) where
    pub not_there : r ≡ false → SoughtIn (tables_of b) side s hub m None
    not_there f =
        let R = read_as b k e in
        none_there (good_tables A.file) m in_set (λ lt h q. told_false t f (sym R.hub ∙ h, rw (R.dep, R.arr) at q))

    pub there : k < to → r ≡ true → FoundInSet (tables_of b) side s hub m k l
    there lt f =
        let R = read_as b k e in
        record {
          entry = record {
            owner = set_owned A;
            low = in_set.passed.low;
            high = omega (arith, A.end);
            hub = R.hub ∙ (told_true t f).0;
            dep = R.dep;
            arr = R.arr;
            pivot = R.pivot;
          };
          hub = (told_true t f).0;
          says = (told_true t f).1;
        }

-- ---- the bounds that were written down, and the label by its ends

module _ {b : List ℕ} {n : ℕ} {starts : List ℕ} (R : Started b n starts) where
  pub set_at : (side : Side) (s set from to : ℕ) → s < n → set ≡ set_of side s → from ≡ get_or starts set 0 → to ≡ get_or starts (set + 1) 0 →
      SetAt b n side s from to
  set_at side s set from to lt e f t = record {
    file = R.file;
    owner = lt;
    start = sym (f ∙ ap (λ k. get_or starts k 0) e ∙ set-start R side s lt);
    end = sym (t ∙ ap (λ k. get_or starts (k + 1) 0) e ∙ set_end R side s lt);
  }

  pub outs_at : (s from to : ℕ) → s < n → from ≡ get_or starts (2 * s) 0 → to ≡ get_or starts (2 * s + 1) 0 → SetAt b n outs s from to
  outs_at s from to lt = set_at outs s (2 * s) from to lt refl

  pub ins_at : (s from to : ℕ) → s < n → from ≡ get_or starts (2 * s + 1) 0 → to ≡ get_or starts (2 * s + 1 + 1) 0 → SetAt b n ins s from to
  ins_at s from to lt = set_at ins s (2 * s + 1) from to lt refl

-- bounds of a set are in order, and within the labels
pub set_bounds : {b : List ℕ} {n : ℕ} {side : Side} {s from to : ℕ} → SetAt b n side s from to → (from ≤ to) × (to ≤ labels_of b)
set_bounds {b} {side = side} {s} A = (omega (arith, A.start, A.end, set_rising b side s), omega (arith, A.end, tables_within A.file side s A.owner))

module _ {T : Tables} (G : GoodTables T) {u v : ℕ} (m : Moment) where
  -- a label u to v stands among the out-labels of u where v is the lower number, else among the in-labels of v
  pub of_outs : (r : std.Option (ℕ × kinds.Label)) → v < u → SoughtIn T outs u v m r → SoughtAs T u v m r
  of_outs (Some (k, l)) lt x = record { label = of_out x.entry; hub = x.hub ∙ sym (min-eq_right (le_of_lt lt)); says = x.says }
  of_outs None lt n = λ w. none w.label w.says
    where
      none : {d a : ℕ} {p : Option ℕ} → Label T u v d a p → ¬ (Exactly m d a)
      none {d} {a} {p} (k, of_out e) = n k d a p e
      none (k, of_in e) = λ _. omega (arith, G.below e)

  pub of_ins : (r : std.Option (ℕ × kinds.Label)) → u ≤ v → SoughtIn T ins v u m r → SoughtAs T u v m r
  of_ins (Some (k, l)) le x = record { label = of_in x.entry; hub = x.hub ∙ sym (min-eq_left le); says = x.says }
  of_ins None le n = λ w. none w.label w.says
    where
      none : {d a : ℕ} {p : Option ℕ} → Label T u v d a p → ¬ (Exactly m d a)
      none {d} {a} {p} (k, of_in e) = n k d a p e
      none (k, of_out e) = λ _. omega (arith, G.below e)

-- ---- the label that was found or not, by the minute that was looked for

module _ {T : Tables} {u v : ℕ} {k : ℕ} {l : kinds.Label} where
  pub leaving_at : {d : ℕ} → FoundLabel T u v (Leaving d) k l → LabelAt T k u v d l.arr (pivot_of l.pivot)
  leaving_at f = subst (λ e. LabelAt T k u v e l.arr (pivot_of l.pivot)) f.says f.label

  pub arriving_at : {a : ℕ} → FoundLabel T u v (Arriving a) k l → LabelAt T k u v l.dep a (pivot_of l.pivot)
  arriving_at f = subst (λ e. LabelAt T k u v l.dep e (pivot_of l.pivot)) f.says f.label

module _ {T : Tables} {u v d a : ℕ} where
  pub other_label : GoodTables T → {k : ℕ} {l : kinds.Label} → FoundLabel T u v (Leaving d) k l → (l.arr ≡ a → ⊥) → (q : Option ℕ) → ¬ (Label T u v d a q)
  other_label G {k} f n q x = n (one_by_dep G (k, leaving_at f) x).0

  pub no_label_at : ¬ (LabelWith T u v (Exactly (Leaving d))) → (q : Option ℕ) → ¬ (Label T u v d a q)
  no_label_at n q x = n (record { dep = d; arr = a; pivot = q; label = x; says = refl })

-- ---- the two halves

module _ {T : Tables} (s : Span) where
  pub no_first : ¬ (LabelWith T s.from s.pivot (Exactly (Leaving s.dep))) → ¬ (Halves T s.from s.pivot s.to s.dep s.arr)
  no_first n h = n (record { dep = s.dep; arr = h.mid; pivot = h.pivot₁; label = h.first; says = refl })

  pub no_second : ¬ (LabelWith T s.pivot s.to (Exactly (Arriving s.arr))) → ¬ (Halves T s.from s.pivot s.to s.dep s.arr)
  no_second n h = n (record { dep = h.start; arr = s.arr; pivot = h.pivot₂; label = h.second; says = refl })

  module _ {i k : ℕ} {x y : kinds.Label} (F : FoundLabel T s.from s.pivot (Leaving s.dep) i x)
      (L : FoundLabel T s.pivot s.to (Arriving s.arr) k y) where
    first_of : Label T s.from s.pivot s.dep x.arr (pivot_of x.pivot)
    first_of = (i, leaving_at F)

    second_of : Label T s.pivot s.to y.dep s.arr (pivot_of y.pivot)
    second_of = (k, arriving_at L)

    pub met : x.arr ≤ y.dep → MeetAt T s (record { mid = x.arr; first = x.pivot; start = y.dep; second = y.pivot })
    met h = record { first = first_of; second = second_of; meets = h }

    pub no_meeting : GoodTables T → y.dep < x.arr → ¬ (Halves T s.from s.pivot s.to s.dep s.arr)
    no_meeting G lt h =
        let e = (one_by_dep G h.first first_of).0 in
        let f = (one_by_arr G h.second second_of).0 in
        omega (arith, h.meets)

pub met_halves : {T : Tables} (s : Span) (h : Meeting) → MeetAt T s h → Halves T s.from s.pivot s.to s.dep s.arr
met_halves s h x = record {
  mid = h.mid;
  start = h.start;
  pivot₁ = pivot_of h.first;
  pivot₂ = pivot_of h.second;
  first = x.first;
  second = x.second;
  meets = x.meets;
}

-- ---- no second answer meets the contracts

same_fields : {a b c d e f g h : ℕ} → a ≡ e → b ≡ f → c ≡ g → d ≡ h →
    ◌≡◌ {A = Meeting} (record { mid = a; first = b; start = c; second = d }) (record { mid = e; first = f; start = g; second = h })
same_fields e f g h = cc

module _ {T : Tables} (G : GoodTables T) where
  same_found : {u v i k : ℕ} (m : Moment) {x y : kinds.Label} → FoundLabel T u v m i x → FoundLabel T u v m k y → (i ≡ k) × (x ≡ y)
  same_found {i = i} {k} (Leaving t) {x} {y} f g =
      let s = one_by_dep G (i, leaving_at f) (k, leaving_at g) in (
        number_by_dep G (leaving_at f) (leaving_at g),
        same_label x y (f.hub ∙ sym g.hub) (f.says ∙ sym g.says) s.0
            (pivot_one x.pivot y.pivot s.1),
      )
  same_found {u} {v} {i} {k} (Arriving t) {x} {y} f g =
      let s = one_by_arr G (i, arriving_at f) (k, arriving_at g) in (
        number_by_dep G (arriving_at f) (subst (λ d. LabelAt T k u v d t (pivot_of y.pivot)) (sym s.0) (arriving_at g)),
        same_label x y (f.hub ∙ sym g.hub) s.0 (f.says ∙ sym g.says) (pivot_one x.pivot y.pivot s.1),
      )

  pub sought_one : (u v : ℕ) (m : Moment) (r s : std.Option (ℕ × kinds.Label)) → SoughtAs T u v m r → SoughtAs T u v m s → r ≡ s
  sought_one u v m (Some (i, x)) (Some (k, y)) f g = let e = same_found m f g in ap (λ j. Some (j, x)) e.0 ∙ ap (λ z. Some (k, z)) e.1
  sought_one u v m (Some (i, x)) None f n =
      absurd (n (record { dep = x.dep; arr = x.arr; pivot = pivot_of x.pivot; label = (i, f.label); says = f.says }))
  sought_one u v m None (Some (k, y)) n g =
      absurd (n (record { dep = y.dep; arr = y.arr; pivot = pivot_of y.pivot; label = (k, g.label); says = g.says }))
  sought_one u v m None None n k = refl

  same_meeting : (s : Span) (h k : Meeting) → MeetAt T s h → MeetAt T s k → h ≡ k
  same_meeting s h k x y =
      let a = one_by_dep G x.first y.first in
      let b = one_by_arr G x.second y.second in
      same_fields a.0 (pivot_one h.first k.first a.1) b.0 (pivot_one h.second k.second b.1)

  pub parted_one : (s : Span) (x y : std.Option Meeting) → PartedAs T s x → PartedAs T s y → x ≡ y
  parted_one s (Some h) (Some k) f g = ap Some (same_meeting s h k f g)
  parted_one s (Some h) None f n = absurd (n (met_halves s h f))
  parted_one s None (Some k) n g = absurd (n (met_halves s k g))
  parted_one s None None n k = refl
