-- Laws of what is spelled out: where the labels of a stop begin and end, that a number names one label, and that what a refusal names can be spelled out.
use Rattle.std.specs.Prelude.{ℕ, ◌+◌, ◌*◌, ◌≤◌, ◌<◌, ◌≡◌, refl, List, ◌++◌, Bool, true, false, ◌⊎◌, ltb}
use Rattle.std.proofs.Common.{sym, ap, subst, ◌∙◌, append-nil, inl, inr, arith, ltb-true, ltb-false, lt-ltb, le-ltb}
use Rattle.std.proofs.Math.Option.{Option, some}
use Rattle.std.proofs.Math.Decide.{ℕ_discrete}
use Rattle.kinds.specs.Limits.{no_pivot, runs_room}
use Rattle.kinds.specs.declared.Refusal.{Refusal}
use Rattle.journeys.specs.Tables.{outs, ins, Tables, Entry, LabelAt, of_out, of_in}
use Rattle.timetable.specs.Numbers.{given_of}
use Rattle.tables.specs.File.{start_of, labels_of, label_at, pivot_of, tables_of}
use Rattle.tables.specs.FileLaws.{start_none, start_more}
use Rattle.tables.specs.Good.{Room, GoodFile}
use Rattle.tables.specs.TablesLaws.{pivot_none, pivot_some, tables_start, tables_end, good_stops, room_entry, entry_only, good_tables}
use Rattle.reader.specs.Text.{GoodRead}
use Rattle.reader.specs.TextLaws.{named_all}
use Rattle.report.specs.Lines.{ChangeIn, entry_line}
use Rattle.desk.specs.Spelled.{change_at, stop_spelled, side_of, pivot_said, BadSpelled, AllNamed, Spellable, SameLabel}
use Rattle.desk.specs.Places.{Places}

module _ (b : List ℕ) where
  pub outs_first : (tables_of b).start outs 0 ≡ 0
  outs_first = tables_start b outs 0 ∙ start_none b

  -- the in-labels of a stop follow its out-labels, and the next stop's labels follow them
  pub ins_follow : (s : ℕ) → (tables_of b).end outs s ≡ (tables_of b).start ins s
  ins_follow s = tables_end b outs s ∙ sym (start_more b (2 * s)) ∙ sym (tables_start b ins s)

  pub outs_follow : (s : ℕ) → (tables_of b).end ins s ≡ (tables_of b).start outs (s + 1)
  outs_follow s =
      let e : 2 * s + 1 + 1 ≡ 2 * (s + 1) = omega arith in
      tables_end b ins s ∙ sym (start_more b (2 * s + 1)) ∙ ap (start_of b) e ∙ sym (tables_start b outs (s + 1))

module _ {b : List ℕ} {n : ℕ} (g : Room b n) where
  pub outs_last : (tables_of b).start outs n ≡ labels_of b
  outs_last = tables_start b outs n ∙ ap (λ (m : ℕ). start_of b (2 * m)) (sym g.contents.stops)

  -- label k stands between the bounds of stop s: it is an out-label or an in-label
  pub label_out : (s k : ℕ) → s < n → (tables_of b).start outs s ≤ k → k < (tables_of b).end outs s →
      Entry (tables_of b) outs k s (label_at b k).hub (label_at b k).dep (label_at b k).arr (pivot_of (label_at b k).pivot)
  label_out s k lt low high = room_entry g outs s k lt low high

  pub label_in : (s k : ℕ) → s < n → (tables_of b).end outs s ≤ k → k < (tables_of b).end ins s →
      Entry (tables_of b) ins k s (label_at b k).hub (label_at b k).dep (label_at b k).arr (pivot_of (label_at b k).pivot)
  label_in s k lt low high = room_entry g ins s k lt (omega (arith, ins_follow b s)) high

  -- in which of its owner's two sets: it is an out-label where it stands before the end of those
  pub label_side : (s k : ℕ) → s < n → (tables_of b).start outs s ≤ k → k < (tables_of b).end ins s →
      Entry (tables_of b) (side_of (ltb k ((tables_of b).end outs s))) k s (label_at b k).hub (label_at b k).dep (label_at b k).arr
      (pivot_of (label_at b k).pivot)
  label_side s k lt low high = go (ltb k ((tables_of b).end outs s)) refl
    where
      go : (c : Bool) → ltb k ((tables_of b).end outs s) ≡ c →
          Entry (tables_of b) (side_of c) k s (label_at b k).hub (label_at b k).dep (label_at b k).arr (pivot_of (label_at b k).pivot)
      go true h = label_out s k lt low (ltb-true k ((tables_of b).end outs s) h)
      go false h = label_in s k lt (ltb-false k ((tables_of b).end outs s) h) high

no_side : outs ≡ ins → ⊥
no_side e = cc

module _ (b : List ℕ) {k u v d a u' v' d' a' : ℕ} {p p' : Option ℕ} where
  pub label_one : LabelAt (tables_of b) k u v d a p → LabelAt (tables_of b) k u' v' d' a' p' → SameLabel u v d a p u' v' d' a' p'
  label_one (of_out x) (of_out y) =
      record {
        from = (entry_only b x y).1;
        to = sym x.hub ∙ y.hub;
        dep = sym x.dep ∙ y.dep;
        arr = sym x.arr ∙ y.arr;
        pivot = sym x.pivot ∙
            y.pivot;
      }
  label_one (of_in x) (of_in y) =
      record {
        from = sym x.hub ∙ y.hub;
        to = (entry_only b x y).1;
        dep = sym x.dep ∙ y.dep;
        arr = sym x.arr ∙ y.arr;
        pivot = sym x.pivot ∙
            y.pivot;
      }
  label_one (of_out x) (of_in y) = absurd (no_side (entry_only b x y).0)
  label_one (of_in x) (of_out y) = absurd (no_side (sym (entry_only b x y).0))

-- and the label that is not good
side_one : (x y : Bool) → side_of x ≡ side_of y → x ≡ y
side_one true true e = refl
side_one false false e = refl
side_one true false e = absurd (no_side e)
side_one false true e = absurd (no_side (sym e))

pub bad_spelled_one : (b : List ℕ) {s codes : List ℕ} {stops k : ℕ} {xs ys : List ℕ} → BadSpelled (tables_of b) s codes stops k xs →
    BadSpelled (tables_of b) s codes stops k ys → xs ≡ ys
bad_spelled_one b x y =
    let z = entry_only b x.entry y.entry in
    x.is ∙ rw (
      side_one x.out y.out z.0,
      z.1,
      sym x.entry.hub ∙ y.entry.hub,
      sym x.entry.dep ∙ y.entry.dep,
      sym x.entry.arr ∙
          y.entry.arr,
      sym x.entry.pivot ∙ y.entry.pivot,
    )
    (sym y.is)

-- the stop that owns it is one of the timetable's, or is not
module _ {T : Tables} (out : Bool) {k owner hub dep arr : ℕ} {pivot : Option ℕ} (e : Entry T (side_of out) k owner hub dep arr pivot) where
  pub bad_owned : {s codes : List ℕ} {stops : ℕ} → owner < stops →
      BadSpelled T s codes stops k (entry_line k out owner hub dep arr (pivot_said pivot) ++ stop_spelled s codes owner)
  bad_owned {stops = stops} lt = record { out = out; owner = owner; hub = hub; dep = dep; arr = arr; pivot = pivot; entry = e; is = rw (lt-ltb owner stops lt) }

  pub bad_alone : {s codes : List ℕ} {stops : ℕ} → stops ≤ owner → BadSpelled T s codes stops k (entry_line k out owner hub dep arr (pivot_said pivot))
  bad_alone {stops = stops} le =
      record { out = out; owner = owner; hub = hub; dep = dep; arr = arr; pivot = pivot; entry = e; is = rw (le-ltb owner stops le) (sym (append-nil _)) }

-- ---- the stops of a label are stops

module _ {b : List ℕ} {n : ℕ} (g : GoodFile b n) {k u v d a : ℕ} where
  pub label_from : {p : Option ℕ} → LabelAt (tables_of b) k u v d a p → u < n
  label_from (of_out x) = omega (arith, x.owner, good_stops g)
  label_from (of_in x) = omega (arith, x.owner, good_stops g, (good_tables g).below x)

  pub label_to : {p : Option ℕ} → LabelAt (tables_of b) k u v d a p → v < n
  label_to (of_out x) = omega (arith, x.owner, good_stops g, (good_tables g).below x)
  label_to (of_in x) = omega (arith, x.owner, good_stops g)

  some_pivot : {w : ℕ} → LabelAt (tables_of b) k u v d a (some w) → w < n
  some_pivot (of_out x) = omega (arith, (good_tables g).pivot_high x, good_stops g)
  some_pivot (of_in x) = omega (arith, (good_tables g).pivot_high x, good_stops g)

  pub label_pivot : (q : ℕ) → LabelAt (tables_of b) k u v d a (pivot_of q) → (q ≡ no_pivot) ⊎ (q < n)
  label_pivot q l = go (ℕ_discrete q no_pivot)
    where
      go : Dec (q ≡ no_pivot) → (q ≡ no_pivot) ⊎ (q < n)
      go (yes e) = inl e
      go (no e) = inr (some_pivot (subst (LabelAt (tables_of b) k u v d a) (pivot_some q e) l))

-- ---- what can be spelled out

pub change_in : {s codes : List ℕ} {n : ℕ} → AllNamed s codes n → (q : ℕ) → (q ≡ no_pivot) ⊎ (q < n) → ChangeIn s (change_at codes (pivot_of q))
change_in {s} {codes} a q (inl e) = rw (pivot_none q e) tt
change_in {s} {codes} {n} a q (inr lt) = go (ℕ_discrete q no_pivot)
  where
    go : Dec (q ≡ no_pivot) → ChangeIn s (change_at codes (pivot_of q))
    go (yes e) = rw (pivot_none q e) tt
    go (no e) = rw (pivot_some q e) (a.stop q lt).code

pub spellable : {s b codes runs : List ℕ} {roomR roomC stops count : ℕ} {r : Refusal} → runs_room ≤ roomR → GoodRead s roomR roomC stops count runs codes →
    Places b (given_of stops count) r → Spellable b s codes runs stops r
spellable {s} {b} {codes} {runs} {roomR} {roomC} {stops} {count} {r} room g p =
    record {
      names = record { stop = named_all g };
      bad = p.bad;
      file = p.file;
      label = p.label;
      run = λ h. let q = g.good r.place (p.run h) in
          record {
            run = record { stops = stops; few = g.few; long = omega (arith, g.few_runs, g.numbers_long, p.run h); good = q };
            from = named_all g _ q.from_stop;
            to = named_all g _ q.to_stop;
          };
      stop = p.stop;
    }
