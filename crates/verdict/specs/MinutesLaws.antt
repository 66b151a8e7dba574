-- The turns of the loops over the room, over out-labels and over in-labels.
use Rattle.std.specs.Prelude.{ℕ, ◌+◌, ◌≤◌, ◌<◌, ◌≡◌, List, Bool, ◌⊎◌, ◌≢◌, length, get_or, set, ltb, leb}
use Rattle.std.proofs.Math.Path.{refl}
use Rattle.std.proofs.Common.{sym, ap, subst, ◌∙◌, ⊎_elim, eq-or-lt_of_le, length-set, ltb-false, leb-true, leb-false, le-ltb}
use Rattle.std.proofs.Math.Bool.{true, false, cond}
use Rattle.std.proofs.Math.Option.{Option}
use Rattle.std.proofs.Math.Logic.{inl, inr}
use native.Mathlib.Omega.{arith}
use Rattle.std.proofs.Math.Decide.{ℕ_discrete}
use Rattle.std.proofs.Math.Seq.{get_or-set_same, get_or-set_other}
use Rattle.kinds.specs.Limits.{unreached}
use Rattle.kinds.specs.declared.Label.{Label}
use Rattle.journeys.specs.Tables.{Side, Tables, outs, ins, Entry, GoodTables}
use Rattle.journeys.proofs.SketchLaws.{entry_at, one_entry}
use Rattle.tables.specs.File.{set_of, labels_of, label_at, tables_of}
use Rattle.tables.specs.Read.{ReadsAs}
use Rattle.tables.specs.Good.{GoodFile}
use Rattle.tables.specs.TablesLaws.{read_as, good_stops, good_tables, tables_within}
use Rattle.label_sets.specs.Starts.{starts_room, Started}
use Rattle.label_sets.specs.StartsLaws.{starts_kept, set-start, set_end, set_rising}
use Rattle.verdict.specs.declared.Soonest.{Soonest}
use Rattle.verdict.specs.Early.{OutBy, Reached, InBy, Arrival, Arrivals}
use Rattle.verdict.specs.Minutes.{minutes, SameBefore, Cleared, relaxed, sooner_of, WithIn, WalkTo, TakenOuts, TakenIns}

-- ---- the room

pub kept_none : {place : ℕ} {x : List ℕ} → SameBefore place x x
kept_none = record { long = refl; same = λ p lt. refl }

pub kept_set : {place : ℕ} {x y : List ℕ} (p v : ℕ) → place ≤ p → SameBefore place x y → SameBefore place x (set y p v)
kept_set {y = y} p v le s = record {
  long = length-set y p v ∙ s.long;
  same = λ q lt. get_or-set_other y p q v 0 (λ e. omega arith) ∙ s.same q lt;
}

pub kept_then : {place low : ℕ} {x y z : List ℕ} → low ≤ place → SameBefore low x y → SameBefore place y z → SameBefore low x z
kept_then le s t = record { long = t.long ∙ s.long; same = λ p lt. t.same p (omega arith) ∙ s.same p lt }

pub started_kept : {b : List ℕ} {n place : ℕ} {x y : List ℕ} → starts_room ≤ place → Started b n x → SameBefore place x y → Started b n y
started_kept le r s = starts_kept r s.long (λ set lt. s.same set (omega arith))

pub clear_none : {at : ℕ} {x : List ℕ} → Cleared at at x x
clear_none = record { kept = kept_none; clear = λ p le lt. absurd (omega arith) }

pub clear_more : {at p : ℕ} {x y : List ℕ} → at ≤ p → p < length x → Cleared at p x y → Cleared at (p + 1) x (set y p unreached)
clear_more {at} {p} {x} {y} le lt c = record { kept = kept_set p unreached le c.kept; clear = λ q ge m. go q ge (eq-or-lt_of_le (omega arith)) }
  where
    go : (q : ℕ) → at ≤ q → (q ≡ p) ⊎ (q < p) → get_or (set y p unreached) q 0 ≡ unreached
    go q ge (inl e) = ap (λ (i : ℕ). get_or (set y p unreached) i 0) e ∙ get_or-set_same y p unreached 0 (omega (arith, c.kept.long))
    go q ge (inr m) = get_or-set_other y p q unreached 0 (λ e. omega arith) ∙ c.clear q ge m

relaxed_kept : (at d : ℕ) (l : Label) (room : List ℕ) → SameBefore at room (relaxed at d l room)
unfolding relaxed
relaxed_kept at d l room = go (ltb l.dep d) (sooner_of (minutes room at l.hub) d l)
  where
    go : (x : Bool) (z : ℕ) → SameBefore at room (cond x room (set room (at + l.hub) z))
    go true z = kept_none
    go false z = kept_set (at + l.hub) z (omega arith) kept_none

-- ---- a walk along a set

pub walk_begin : {b : List ℕ} {n : ℕ} {room : List ℕ} → Started b n room → (side : Side) (o : ℕ) → o < n → {end k : ℕ} →
    end ≡ get_or room (set_of side o + 1) 0 → k ≡ get_or room (set_of side o) 0 → WalkTo b side o end k
walk_begin {b} r side o lt e f = record {
  low = omega (arith, f, set-start r side o lt);
  high = omega (arith, e, f, set-start r side o lt, set_end r side o lt, set_rising b side o);
  is_end = e ∙ set_end r side o lt;
}

-- label k, still in the set, as it is read
module _ {b : List ℕ} {side : Side} {o end k : ℕ} (W : WalkTo b side o end k) (lt : k < end) where
  pub walk_more : WalkTo b side o end (k + 1)
  walk_more = record { low = omega (arith, W.low); high = omega arith; is_end = W.is_end }

  module _ {n : ℕ} (g : GoodFile b n) (own : o < n) where
    pub walk_label : k < labels_of b
    walk_label = omega (arith, W.is_end, tables_within g side o own)

    walk_entry : Entry (tables_of b) side k o ((tables_of b).hub k) ((tables_of b).dep k) ((tables_of b).arr k) ((tables_of b).pivot k)
    walk_entry = entry_at (omega (arith, good_stops g)) W.low (omega (arith, W.is_end))

    pub walk_hub : {l : Label} → l ≡ label_at b k → l.hub < n
    walk_hub e = omega (arith, (good_tables g).below walk_entry, (read_as b k e).hub)

-- ---- one label more

module _ (e m : ℕ) (l : Label) where
  sooner_falls : sooner_of e m l ≤ e
  unfolding sooner_of
  sooner_falls = go (ltb l.dep m) (leb e l.arr) (leb-false e l.arr)
    where
      go : (x y : Bool) → (y ≡ false → l.arr < e) → cond x e (cond y e l.arr) ≤ e
      go true y f = omega arith
      go false true f = omega arith
      go false false f = omega (arith, f refl)

  sooner_low : m ≤ l.dep → sooner_of e m l ≤ l.arr
  unfolding sooner_of
  sooner_low h = rw (le-ltb l.dep m h) (go (leb e l.arr) (leb-true e l.arr))
    where
      go : (y : Bool) → (y ≡ true → e ≤ l.arr) → cond y e l.arr ≤ l.arr
      go true f = f refl
      go false f = omega arith

  -- as it was, or by this label
  sooner_real : (sooner_of e m l ≡ e) ⊎ ((m ≤ l.dep) × (sooner_of e m l ≡ l.arr))
  unfolding sooner_of
  sooner_real = go (ltb l.dep m) (leb e l.arr) (ltb-false l.dep m)
    where
      go : (x y : Bool) → (x ≡ false → m ≤ l.dep) → (cond x e (cond y e l.arr) ≡ e) ⊎ ((m ≤ l.dep) × (cond x e (cond y e l.arr) ≡ l.arr))
      go true y f = inl refl
      go false true f = inl refl
      go false false f = inr (f refl, refl)

-- ---- the hubs

-- before the first out-label
reached_none : {T : Tables} {u d at n : ℕ} {x y : List ℕ} → T.stops ≡ n → u < n → d ≤ unreached → at + n ≤ length x → Cleared at (at + n) x y →
    Reached T u d (T.start outs u) (minutes (set y (at + u) d) at)
reached_none {T} {u} {d} {at} {n} {x} {y} e lt le long c =
    record {
      own = own;
      low = λ x m h. absurd (omega (arith, x.low));
      real = λ h f m q. absurd (omega (arith, other h f (omega arith)));
      most = λ h m. elim (ℕ_discrete h u) [
        | yes f ↦ subst (λ (i : ℕ). minutes (set y (at + u) d) at i ≤ unreached) (sym f) (omega (arith, own))
        | no f ↦ omega (arith, other h f (omega arith))
      ];
    }
  where
    own : minutes (set y (at + u) d) at u ≡ d
    own = get_or-set_same y (at + u) d 0 (omega (arith, c.kept.long))

    other : (h : ℕ) → h ≢ u → h < n → minutes (set y (at + u) d) at h ≡ unreached
    other h f m = get_or-set_other y (at + u) (at + h) d 0 (λ q. f (omega arith)) ∙ c.clear (at + h) (omega arith) (omega arith)

-- one out-label more, k, read as l
module _ {T : Tables} (G : GoodTables T) {u d k : ℕ} {l : Label} (says : ReadsAs T k l) (it : Entry T outs k u (T.hub k) (T.dep k) (T.arr k) (T.pivot k))
    (at : ℕ) (room : List ℕ) (in-room : at + l.hub < length room) (r : Reached T u d k (minutes room at)) where
  here : minutes (relaxed at d l room) at l.hub ≡ sooner_of (minutes room at l.hub) d l
  unfolding relaxed sooner_of
  here = go (ltb l.dep d) (cond (leb (minutes room at l.hub) l.arr) (minutes room at l.hub) l.arr)
    where
      go : (x : Bool) (z : ℕ) → minutes (cond x room (set room (at + l.hub) (cond x (minutes room at l.hub) z))) at l.hub ≡
          cond x (minutes room at l.hub) z
      go true z = refl
      go false z = get_or-set_same room (at + l.hub) z 0 in-room

  else : (h : ℕ) → h ≢ l.hub → minutes (relaxed at d l room) at h ≡ minutes room at h
  unfolding relaxed
  else h n = go (ltb l.dep d) (sooner_of (minutes room at l.hub) d l)
    where
      go : (x : Bool) (z : ℕ) → minutes (cond x room (set room (at + l.hub) z)) at h ≡ minutes room at h
      go true z = refl
      go false z = get_or-set_other room (at + l.hub) (at + h) z 0 (λ e. n (omega arith))

  falls : (h : ℕ) → minutes (relaxed at d l room) at h ≤ minutes room at h
  falls h = elim (ℕ_discrete h l.hub) [
    | yes e ↦ subst (λ (y : ℕ). minutes (relaxed at d l room) at y ≤ minutes room at y) (sym e)
        (omega (arith, here, sooner_falls (minutes room at l.hub) d l))
    | no n ↦ omega (arith, else h n)
  ]

  low_more : {j h c a : ℕ} {p : Option ℕ} → Entry T outs j u h c a p → j < k + 1 → d ≤ c → minutes (relaxed at d l room) at h ≤ a
  low_more {j} {h} {c} {a} x lt le =
      ⊎_elim
      (λ (e : j ≡ k).
      let z = one_entry (sym e) it x in
      subst (λ (y : ℕ). minutes (relaxed at d l room) at y ≤ a) (sym says.hub ∙ z.0)
      (omega (arith, here, sooner_low (minutes room at l.hub) d l (omega (arith, says.dep, z.1)), says.arr, z.2)))
      (λ (m : j < k). omega (arith, falls h, r.low x m le)) (eq-or-lt_of_le (omega arith))

  real_more : (h : ℕ) → h ≢ u → h < T.stops → minutes (relaxed at d l room) at h < unreached → OutBy T u h d (minutes (relaxed at d l room) at h)
  real_more h n s q = go (ℕ_discrete h l.hub) (sooner_real (minutes room at l.hub) d l)
    where
      as_it_was : minutes (relaxed at d l room) at h ≡ minutes room at h → OutBy T u h d (minutes (relaxed at d l room) at h)
      as_it_was e = subst (OutBy T u h d) (sym e) (r.real h n s (omega arith))

      go : Dec (h ≡ l.hub) → (sooner_of (minutes room at l.hub) d l ≡ minutes room at l.hub) ⊎
          ((d ≤ l.dep) × (sooner_of (minutes room at l.hub) d l ≡ l.arr)) →
          OutBy T u h d (minutes (relaxed at d l room) at h)
      go (no m) z = as_it_was (else h m)
      go (yes e) (inl z) = as_it_was (ap (minutes (relaxed at d l room) at) e ∙ here ∙ z ∙ sym (ap (minutes room at) e))
      go (yes e) (inr z) = record {
        number = k;
        dep = T.dep k;
        pivot = T.pivot k;
        label = rw (ap (minutes (relaxed at d l room) at) e ∙ here ∙ z.1, e, ← says.hub, ← says.arr) it;
        after = omega (arith, says.dep, z.0);
      }

  reached_more : Reached T u d (k + 1) (minutes (relaxed at d l room) at)
  reached_more = record {
    own = else u (λ e. omega (arith, G.below it, says.hub)) ∙ r.own;
    low = low_more;
    real = real_more;
    most = λ h s. omega (arith, falls h, r.most h s);
  }

-- the turns
pub outs_begin : {b : List ℕ} {n : ℕ} {x y : List ℕ} → Started b n x → {u d at end k : ℕ} → u < n → d ≤ unreached → at + n ≤ length x →
    end ≡ get_or x (set_of outs u + 1) 0 → k ≡ get_or x (set_of outs u) 0 → Cleared at (at + n) x y →
    TakenOuts b n u d at end (set y (at + u) d) (set y (at + u) d) k
outs_begin {b} {n} {x} {y} r {u} {d} {at} lt le long e f c = record {
  walk = walk_begin r outs u lt e f;
  long = omega (arith, length-set y (at + u) d, c.kept.long);
  kept = kept_none;
  reached = rw (f ∙ set-start r outs u lt) (reached_none (good_stops r.file) lt le long c);
}

module _ {b : List ℕ} {n u d at end k : ℕ} {x y : List ℕ} (O : TakenOuts b n u d at end x y k) where
  pub outs_more : k < end → GoodFile b n → u < n → {l : Label} → l ≡ label_at b k → {z : List ℕ} → z ≡ relaxed at d l y → TakenOuts b n u d at end x z (k + 1)
  outs_more lt g own {l} e q = rw q (record {
    walk = walk_more O.walk lt;
    long = omega (arith, O.long, (relaxed_kept at d l y).long);
    kept = kept_then (omega arith) O.kept (relaxed_kept at d l y);
    reached = reached_more (good_tables g) (read_as b k e) (walk_entry O.walk lt g own) at y
        (omega (arith, walk_hub O.walk lt g own e, O.long)) O.reached;
  })

  pub outs_end : end ≤ k → Reached (tables_of b) u d ((tables_of b).end outs u) (minutes y at)
  outs_end ge = let h : k ≡ (tables_of b).end outs u = omega (arith, O.walk.high, O.walk.is_end) in rw (← h) O.reached

-- at the stops of the tables the same minutes are as good
pub reached_same : {T : Tables} → GoodTables T → {u d to : ℕ} → u < T.stops → (R Q : ℕ → ℕ) → ((h : ℕ) → h < T.stops → Q h ≡ R h) →
    Reached T u d to R → Reached T u d to Q
reached_same {T} G {u} {d} {to} lt R Q e r = record {
  own = e u lt ∙ r.own;
  low = low';
  real = λ h n s q. subst (OutBy T u h d) (sym (e h s)) (r.real h n s (omega (arith, e h s)));
  most = λ h s. omega (arith, e h s, r.most h s);
}
  where
    low' : {j h c a : ℕ} {p : Option ℕ} → Entry T outs j u h c a p → j < to → d ≤ c → Q h ≤ a
    low' {j} {h} x m le = omega (arith, e h (omega (arith, G.below x, x.owner)), r.low x m le)

-- ---- an arrival at v

arrival_none : (T : Tables) (R : ℕ → ℕ) (v : ℕ) → Arrival T R v (T.start ins v) (R v)
arrival_none T R v = record { own = omega arith; low = λ x m h. absurd (omega (arith, x.low)); real = inl refl }

-- one in-label more, k, read as l
module _ {T : Tables} (R : ℕ → ℕ) {v k e : ℕ} {l : Label} (says : ReadsAs T k l) (it : Entry T ins k v (T.hub k) (T.dep k) (T.arr k) (T.pivot k))
    (a : Arrival T R v k e) where
  arrival_more : Arrival T R v (k + 1) (sooner_of e (R l.hub) l)
  arrival_more = record { own = omega (arith, sooner_falls e (R l.hub) l, a.own); low = low_to; real = go (sooner_real e (R l.hub) l) a.real }
    where
      low_to : {j h c b : ℕ} {p : Option ℕ} → Entry T ins j v h c b p → j < k + 1 → R h ≤ c → sooner_of e (R l.hub) l ≤ b
      low_to {j} {h} {c} {b} x lt m =
          ⊎_elim
          (λ (q : j ≡ k).
          let z = one_entry (sym q) it x in
          let n = subst (λ (y : ℕ). R y ≤ c) (sym z.0 ∙ says.hub) m in
          omega (arith, sooner_low e (R l.hub) l (omega (arith, n, z.1, says.dep)), z.2, says.arr))
          (λ (s : j < k). omega (arith, sooner_falls e (R l.hub) l, a.low x s m)) (eq-or-lt_of_le (omega arith))

      go : (sooner_of e (R l.hub) l ≡ e) ⊎ ((R l.hub ≤ l.dep) × (sooner_of e (R l.hub) l ≡ l.arr)) → (e ≡ R v) ⊎ InBy T R v e →
          (sooner_of e (R l.hub) l ≡ R v) ⊎ InBy T R v (sooner_of e (R l.hub) l)
      go (inl z) r = subst (λ (f : ℕ). (f ≡ R v) ⊎ InBy T R v f) (sym z) r
      go (inr z) r = inr (record {
        number = k;
        hub = T.hub k;
        dep = T.dep k;
        pivot = T.pivot k;
        label = rw (z.1, ← says.arr) it;
        met = subst (λ (y : ℕ). R y ≤ T.dep k) (sym says.hub) (omega (arith, says.dep, z.0));
      })

-- the turns
pub ins_begin : {b : List ℕ} {n : ℕ} {room : List ℕ} → Started b n room → (R Q : ℕ → ℕ) {v end k : ℕ} → v < n →
    end ≡ get_or room (set_of ins v + 1) 0 → k ≡ get_or room (set_of ins v) 0 → {s : Soonest} → s ≡ record { near = R v; far = Q v } → TakenIns b R Q v end s k
ins_begin {b} r R Q {v} lt e f q = rw q (record {
  walk = walk_begin r ins v lt e f;
  soonest = rw (f ∙ set-start r ins v lt) (record { by_near = arrival_none (tables_of b) R v; by_far = arrival_none (tables_of b) Q v });
})

module _ {b : List ℕ} (R Q : ℕ → ℕ) {v end k : ℕ} {s : Soonest} (I : TakenIns b R Q v end s k) where
  pub ins_more : k < end → {n : ℕ} → GoodFile b n → v < n → {l : Label} → l ≡ label_at b k → {m z : Soonest} →
      m ≡ record { near = R l.hub; far = Q l.hub } → WithIn s m l z → TakenIns b R Q v end z (k + 1)
  ins_more lt g own e f q =
      let says = read_as b k e in
      let it = walk_entry I.walk lt g own in
      record {
        walk = walk_more I.walk lt;
        soonest = record {
          by_near = rw (q.0, f) (arrival_more R says it I.soonest.by_near);
          by_far = rw (q.1, f) (arrival_more Q says it I.soonest.by_far);
        };
      }

  pub ins_end : end ≤ k → Arrivals (tables_of b) R Q v ((tables_of b).end ins v) s
  ins_end ge = let h : k ≡ (tables_of b).end ins v = omega (arith, I.walk.high, I.walk.is_end) in rw (← h) I.soonest
