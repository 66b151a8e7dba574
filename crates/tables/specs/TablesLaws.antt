-- The tables of a good file are good tables, and what a label that is read says of them. Those above need no more of the bytes than this.
use Rattle.std.specs.Prelude.{ℕ, zero, suc, ◌+◌, ◌*◌, ◌-◌, ◌/◌, ◌%◌, ◌≤◌, ◌<◌, ◌≡◌, refl, List, ◌⊎◌, eqb}
use Rattle.std.proofs.Math.Path.{sym, subst₂}
use Rattle.std.proofs.Common.{subst, ◌∙◌, inl, inr, ⊎_elim, eq-or-lt_of_le, eq-eqb, ne_eqb}
use Rattle.std.proofs.Math.Option.{Option, none, some}
use native.Mathlib.Omega.{arith}
use Rattle.std.proofs.Math.Decide.{ℕ_discrete}
use Rattle.std.proofs.lemmas.Bool.{eqb-false}
use Rattle.loops.specs.ChainLaws.{past}
use Rattle.kinds.specs.Limits.{no_pivot}
use Rattle.kinds.specs.Kinds.{GoodPivot}
use Rattle.kinds.specs.declared.Label.{Label}
use Rattle.journeys.specs.Tables.{Side, outs, ins, Entry, GoodTables}
use Rattle.tables.specs.File.{stops_of, set_of, owner_of, count_of, start_of, end_of, labels_of, label_at, pivot_of, tables_of}
use Rattle.tables.specs.Read.{ReadsAs}
use Rattle.tables.specs.FileLaws.{set_only, set_within}
use Rattle.tables.specs.Good.{After, higher, later, LabelGood, Room, GoodFile}
use Rattle.tables.specs.GoodLaws.{after_trans}

-- ---- pivots

pub pivot_none : (p : ℕ) → p ≡ no_pivot → pivot_of p ≡ none
pivot_none p e = rw (eq-eqb p no_pivot e)

pub pivot_some : (p : ℕ) → (p ≡ no_pivot → ⊥) → pivot_of p ≡ some p
pivot_some p ne = rw (ne_eqb p no_pivot ne)

pub pivot_is : (p w : ℕ) → pivot_of p ≡ some w → (p ≡ w) × (p ≡ no_pivot → ⊥)
pivot_is p w e =
    let z = past (eqb p no_pivot) e (λ x. cc) in
    let f = z.1 in
    (cc, eqb-false p no_pivot z.0)

pub pivot_one : (p q : ℕ) → pivot_of p ≡ pivot_of q → p ≡ q
pivot_one p q e = go (ℕ_discrete p no_pivot) (ℕ_discrete q no_pivot)
  where
    go : Dec (p ≡ no_pivot) → Dec (q ≡ no_pivot) → p ≡ q
    go (yes h) (yes k) = h ∙ sym k
    go (yes h) (no k) =
        let x = pivot_none p h in
        let y = pivot_some q k in
        cc
    go (no h) d = sym (pivot_is q p (sym e ∙ pivot_some p h)).0

-- ---- what is read

-- labels that say the same are the same
pub same_label : (l m : Label) → l.hub ≡ m.hub → l.dep ≡ m.dep → l.arr ≡ m.arr → l.pivot ≡ m.pivot → l ≡ m
same_label l m h d a p = go h d a p
  where
    go : {h d a p h' d' a' p' : ℕ} → h ≡ h' → d ≡ d' → a ≡ a' → p ≡ p' →
        ◌≡◌ {A = Label} (record { hub = h; dep = d; arr = a; pivot = p }) (record { hub = h'; dep = d'; arr = a'; pivot = p' })
    go e f g q = cc

pub reads : (b : List ℕ) (k : ℕ) → ReadsAs (tables_of b) k (label_at b k)
unfolding tables_of
reads b k = record { hub = refl; dep = refl; arr = refl; pivot = refl }

-- label k was read as l
pub read_as : (b : List ℕ) (k : ℕ) {l : Label} → l ≡ label_at b k → ReadsAs (tables_of b) k l
read_as b k e = subst (ReadsAs (tables_of b) k) (sym e) (reads b k)

pub tables_stops : (b : List ℕ) → (tables_of b).stops ≡ stops_of b
unfolding tables_of
tables_stops b = refl

pub tables_start : (b : List ℕ) (side : Side) (s : ℕ) → (tables_of b).start side s ≡ start_of b (set_of side s)
unfolding tables_of
tables_start b side s = refl

pub tables_end : (b : List ℕ) (side : Side) (s : ℕ) → (tables_of b).end side s ≡ end_of b (set_of side s)
unfolding tables_of
tables_end b side s = refl

pub set_owner : (side : Side) (s : ℕ) → owner_of (set_of side s) ≡ s
set_owner outs s = omega arith
set_owner ins s = omega arith

pub set_below : (side : Side) (s n : ℕ) → s < n → set_of side s < 2 * n
set_below outs s n lt = omega arith
set_below ins s n lt = omega arith

pub set_cases : (set n : ℕ) → set < 2 * n → (side : Side) × (s : ℕ) × (s < n) × (set_of side s ≡ set)
set_cases set n lt = go (ℕ_discrete (set % 2) 0)
  where
    go : Dec (set % 2 ≡ 0) → (side : Side) × (s : ℕ) × (s < n) × (set_of side s ≡ set)
    go (yes e) = (outs, set / 2, omega arith, omega arith)
    go (no e) = (ins, set / 2, omega arith, omega arith)

set_one : (side side' : Side) (s s' : ℕ) → set_of side s ≡ set_of side' s' → (side ≡ side') × (s ≡ s')
set_one outs outs s s' e = (refl, omega arith)
set_one ins ins s s' e = (refl, omega arith)
set_one outs ins s s' e = absurd (omega arith)
set_one ins outs s s' e = absurd (omega arith)

-- the label that is read between the bounds of a set is an entry of the tables, good or not
pub room_entry : {b : List ℕ} {n : ℕ} → Room b n → (side : Side) (s k : ℕ) → s < n → (tables_of b).start side s ≤ k → k < (tables_of b).end side s →
    Entry (tables_of b) side k s (label_at b k).hub (label_at b k).dep (label_at b k).arr (pivot_of (label_at b k).pivot)
unfolding tables_of
room_entry g side s k lt low high =
    record { owner = omega (arith, g.contents.stops); low = low; high = high; hub = refl; dep = refl; arr = refl; pivot = refl }

-- a label stands in one set only
pub entry_only : (b : List ℕ) {side side' : Side} {k s h d a s' h' d' a' : ℕ} {p p' : Option ℕ} →
    Entry (tables_of b) side k s h d a p → Entry (tables_of b) side' k s' h' d' a' p' → (side ≡ side') × (s ≡ s')
unfolding tables_of
entry_only b {side} {side'} {k} {s} {s' = s'} x y = set_one side side' s s' (set_only b x.low x.high y.low y.high)

module _ {b : List ℕ} {n : ℕ} (g : GoodFile b n) where
  pub good_stops : (tables_of b).stops ≡ n
  unfolding tables_of
  good_stops = g.room.contents.stops

  -- the sets lie within the labels
  pub tables_within : (side : Side) (s : ℕ) → s < n → (tables_of b).end side s ≤ labels_of b
  unfolding tables_of
  tables_within side s lt = set_within g.room.contents (set_below side s n lt)

  -- labels of one set rise
  pub rises : (set i k : ℕ) → set < 2 * n → i < k → k < count_of b set → After (label_at b (start_of b set + i)) (label_at b (start_of b set + k))
  rises set i zero lt l m = absurd (omega arith)
  rises set i (suc k) lt l m =
      let last : After (label_at b (start_of b set + k)) (label_at b (start_of b set + suc k)) =
      subst (λ (x : ℕ). After (label_at b x) (label_at b (start_of b set + suc k))) (omega arith) ((g.labels set (suc k) lt m).after (omega arith)) in
      ⊎_elim (λ (e : i ≡ k). subst (λ (x : ℕ). After (label_at b (start_of b set + x)) (label_at b (start_of b set + suc k))) (sym e) last)
      (λ (h : i < k). after_trans _ _ _ (rises set i k lt h (omega arith)) last) (eq-or-lt_of_le (omega arith))

  owner_below : {side : Side} {k s h d a : ℕ} {p : Option ℕ} → Entry (tables_of b) side k s h d a p → set_of side s < 2 * n
  unfolding tables_of
  owner_below {side} {k} {s} x = set_below side s n (omega (arith, x.owner, g.room.contents.stops))

  -- a label of the tables is good
  pub entry_label : {side : Side} {k s h d a : ℕ} {p : Option ℕ} → Entry (tables_of b) side k s h d a p → LabelGood n s (label_at b k)
  unfolding tables_of
  entry_label {side} {k} {s} x =
      let e : start_of b (set_of side s) + (k - start_of b (set_of side s)) ≡ k = omega (arith, x.low) in
      subst₂ (λ (o m : ℕ). LabelGood n o (label_at b m)) (set_owner side s) e
      (g.labels (set_of side s) (k - start_of b (set_of side s)) (owner_below x) (omega (arith, x.low, x.high))).alone

  -- of two in one set the later one comes after
  pub entry_after : {side : Side} {i k s h d a f e c : ℕ} {p q : Option ℕ} →
      Entry (tables_of b) side i s h d a p → Entry (tables_of b) side k s f e c q → i < k → After (label_at b i) (label_at b k)
  unfolding tables_of
  entry_after {side} {i} {k} {s} x y lt =
      let u : start_of b (set_of side s) + (i - start_of b (set_of side s)) ≡ i = omega (arith, x.low) in
      let v : start_of b (set_of side s) + (k - start_of b (set_of side s)) ≡ k = omega (arith, y.low) in
      subst₂ (λ (m o : ℕ). After (label_at b m) (label_at b o)) u v
      (rises (set_of side s) (i - start_of b (set_of side s)) (k - start_of b (set_of side s)) (owner_below x) (omega (arith, x.low))
      (omega (arith, y.low, y.high)))

  pivot_good : {side : Side} {k s h d a w : ℕ} → Entry (tables_of b) side k s h d a (some w) → GoodPivot n s h w
  unfolding tables_of
  pivot_good {side} {k} {s} {h} {d} {a} {w} x = go (pivot_is (label_at b k).pivot w x.pivot) (entry_label x).pivoted
    where
      go : ((label_at b k).pivot ≡ w) × ((label_at b k).pivot ≡ no_pivot → ⊥) →
          ((label_at b k).pivot ≡ no_pivot) ⊎ GoodPivot n s (label_at b k).hub (label_at b k).pivot → GoodPivot n s h w
      go e (inl f) = absurd (e.1 f)
      go e (inr f) = subst₂ (λ (u v : ℕ). GoodPivot n s u v) x.hub e.0 f

  -- the tables of a good file are good tables
  pub good_tables : GoodTables (tables_of b)
  unfolding tables_of
  good_tables =
      record {
        below = λ x. omega (arith, (entry_label x).low, x.hub);
        later = λ x. omega (arith, (entry_label x).later, x.dep, x.arr);
        last = λ x. omega (arith, (entry_label x).last, x.arr);
        pivot_low = λ x. (pivot_good x).above;
        pivot_high = λ x. omega (arith, (pivot_good x).below, g.room.contents.stops);
        pivot_other = λ x. (pivot_good x).other;
        hubs_rise = λ x y lt. omega (arith, hubs (entry_after x y lt), x.hub, y.hub);
        deps_rise = λ x y lt. omega (arith, deps (entry_after x y lt) (x.hub ∙ sym y.hub), x.dep, y.dep);
        arrs_rise = λ x y lt. omega (arith, arrs (entry_after x y lt) (x.hub ∙ sym y.hub), x.arr, y.arr);
      }
    where
      hubs : {m l : Label} → After m l → m.hub ≤ l.hub
      hubs (higher h) = omega arith
      hubs (later e h k) = omega arith

      deps : {m l : Label} → After m l → m.hub ≡ l.hub → m.dep < l.dep
      deps (higher h) e = absurd (omega arith)
      deps (later e h k) f = h

      arrs : {m l : Label} → After m l → m.hub ≡ l.hub → m.arr < l.arr
      arrs (higher h) e = absurd (omega arith)
      arrs (later e h k) f = k
