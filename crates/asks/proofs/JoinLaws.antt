-- The turns of the join over the labels that are read, and that what it finds is the best sketch.
use Rattle.std.specs.Prelude.{ℕ, ◌+◌, ◌≤◌, ◌<◌, ◌≡◌, List, Bool, cond, eqb, None, Option}
use Rattle.std.proofs.Math.Path.{refl}
use Rattle.std.proofs.Common.{sym, ap, subst, ◌∙◌, arith, le_refl, eqb-true}
use Rattle.std.proofs.Math.Bool.{true, false}
use Rattle.std.proofs.lemmas.Bool.{eqb-false}
use Rattle.kinds.specs.declared.Label.{Label}
use Rattle.tables.specs.declared.Bounds.{Bounds}
use Rattle.tables.specs.File.{tables_of, label_at, bounds_of}
use Rattle.tables.specs.Read.{ReadsAs}
use Rattle.tables.specs.Good.{GoodFile}
use Rattle.tables.specs.TablesLaws.{read_as, good_tables}
use Rattle.journeys.specs.declared.Criterion.{Criterion}
use Rattle.journeys.specs.Tables.{outs, ins, GoodTables}
use Rattle.loops.specs.First.{FirstAt}
use Rattle.loops.specs.FirstLaws.{first_extend}
use Rattle.label_sets.specs.Seek.{Past}
use Rattle.label_sets.specs.SetsLaws.{set_owned, set_bounds}
use Rattle.asks.specs.Found.{FoundIn, taken}
use Rattle.asks.specs.Candidates.{leaving_then, PartnerAt, FromOuts, Candidate}
use Rattle.asks.proofs.CandidateLaws.{
  partners_start,
  partners_more,
  outs_start,
  outs_own,
  outs_met,
  outs_none,
  ins_start,
  ins_own,
  ins_none,
  ins_past,
}
use Rattle.asks.specs.Join.{Sets, OutTurn, Place, OutsDone, InsDone, in_turn}
use Rattle.asks.specs.declared.Journey.{Journey}

module _ {b : List ℕ} {n u v outFrom outTo inFrom inTo : ℕ} (S : Sets b n u v outFrom outTo inFrom inTo) where
  pub good : GoodTables (tables_of b)
  good = good_tables S.out_set.file

  pub from_stop : u < (tables_of b).stops
  from_stop = set_owned S.out_set

  pub to_stop : v < (tables_of b).stops
  to_stop = set_owned S.in_set

-- a turn over the out-labels
module _ {b : List ℕ} {n u v outFrom outTo inFrom inTo k : ℕ} {l : Label} {m : ℕ}
    (S : Sets b n u v outFrom outTo inFrom inTo) (t : OutTurn b u outTo inFrom inTo k l m) where
  read : ReadsAs (tables_of b) k l
  read = read_as b k t.read

  partner_of : PartnerAt (tables_of b) v k m
  partner_of = rw (S.in_set.start, S.in_set.end, read.hub, read.arr) t.partner

  pub turn_place : {j : ℕ} → Place b u v inTo k j → Place b u v inTo (k + 1) m
  turn_place {j} P = record {
    behind = partners_more (good S) (from_stop S) (to_stop S) k j m t.low (omega (arith, t.high, S.out_set.end))
        P.behind partner_of;
    within = t.partner.high;
  }

  module _ (c : Criterion) (best : Option Journey) (f : FoundIn (FromOuts (tables_of b) u v k) c best) where
    pub turn_own : {r : Option Journey} → l.hub ≡ v → r ≡ taken c l.dep l.arr best → FoundIn (FromOuts (tables_of b) u v (k + 1)) c r
    turn_own e q =
        rw (q, ← read.dep, ← read.arr)
        (outs_own (good S) (from_stop S) (to_stop S) c k best t.low (read.hub ∙ e) f)

    pub turn_end : (l.hub ≡ v → ⊥) → inTo ≤ m → FoundIn (FromOuts (tables_of b) u v (k + 1)) c best
    turn_end n' h =
        outs_none (good S) (from_stop S) (to_stop S) c k m best (λ e. n' (sym read.hub ∙ e)) partner_of
        (λ lt e. omega (arith, S.in_set.end)) f

    -- the label at the partner's place was read as p
    module _ {p : Label} (other : l.hub ≡ v → ⊥) (e : p ≡ label_at b m) where
      pub turn_met : {r : Option Journey} → m < inTo → p.hub ≡ l.hub → r ≡ taken c l.dep p.arr best → FoundIn (FromOuts (tables_of b) u v (k + 1)) c r
      turn_met lt h q =
          let x = read_as b m e in
          rw (q, ← read.dep, ← x.arr)
          (outs_met (good S) (from_stop S) (to_stop S) c k m best t.low (λ g. other (sym read.hub ∙ g)) partner_of
          (omega (arith, S.in_set.end)) (x.hub ∙ h ∙ sym read.hub) f)

      pub turn_none : (p.hub ≡ l.hub → ⊥) → FoundIn (FromOuts (tables_of b) u v (k + 1)) c best
      turn_none h =
          let x = read_as b m e in
          outs_none (good S) (from_stop S) (to_stop S) c k m best (λ g. other (sym read.hub ∙ g)) partner_of
          (λ lt g. h (sym x.hub ∙ g ∙ read.hub)) f

-- the loop over the out-labels
module _ {b : List ℕ} {n u v outFrom outTo inFrom inTo : ℕ} (S : Sets b n u v outFrom outTo inFrom inTo) (c : Criterion) where
  pub outs_begin : OutsDone b u v c outFrom outTo inTo None inFrom outFrom
  outs_begin = record {
    low = le_refl outFrom;
    high = (set_bounds S.out_set).0;
    found = rw (← S.out_set.start) (outs_start (good S) (from_stop S) (to_stop S) c);
    place = record {
      behind = rw (← S.out_set.start, ← S.in_set.start) (partners_start (good S) (from_stop S) (to_stop S));
      within = (set_bounds S.in_set).0;
    };
  }

  -- out-label k was read as l, and the place of its partner looked for from `next` on
  pub out_turn_at : {best : Option Journey} {next k : ℕ} {l : Label} {m : ℕ} → OutsDone b u v c outFrom outTo inTo best next k → k < outTo →
      l ≡ label_at b k → FirstAt (Past (tables_of b) l.hub (leaving_then l.arr)) next inTo m → OutTurn b u outTo inFrom inTo k l m
  out_turn_at {k = k} O lt e F =
      let R = read_as b k e in
      record {
        low = omega (arith, O.low, S.out_set.start);
        high = lt;
        read = e;
        partner = first_extend (rw (← R.hub, ← R.arr, ← S.in_set.start) (O.place.behind.passed k (le_refl k) (omega (arith, S.out_set.end)))) F;
      }

  pub outs_again : {best best' : Option Journey} {next k : ℕ} {l : Label} {m : ℕ} → OutsDone b u v c outFrom outTo inTo best next k →
      OutTurn b u outTo inFrom inTo k l m → FoundIn (FromOuts (tables_of b) u v (k + 1)) c best' →
      OutsDone b u v c outFrom outTo inTo best' m (k + 1)
  outs_again O t f = record { low = omega (arith, O.low); high = omega (arith, t.high); found = f; place = turn_place S t O.place }

  pub outs_done : {best : Option Journey} {next k : ℕ} → OutsDone b u v c outFrom outTo inTo best next k → outTo ≤ k →
      OutsDone b u v c outFrom outTo inTo best next outTo
  outs_done {best} {next} {k} O le = let e : k ≡ outTo = omega (arith, O.high) in subst (OutsDone b u v c outFrom outTo inTo best next) e O

  -- then the in-labels
  pub ins_begin : {best : Option Journey} {next : ℕ} → OutsDone b u v c outFrom outTo inTo best next outTo → InsDone b u v c inTo best next
  ins_begin {best} {next} O = record {
    low = O.place.behind.low;
    high = O.place.within;
    found = ins_start (good S) (from_stop S) (to_stop S) c next best (rw S.out_set.end O.place.behind) (rw S.out_set.end O.found);
  }

  -- in-label k was read as l
  module _ {best : Option Journey} {k : ℕ} {l : Label} (I : InsDone b u v c inTo best k) (lt : k < inTo) (e : l ≡ label_at b k) where
    pub ins_again : {best' : Option Journey} → best' ≡ in_turn c u l best → InsDone b u v c inTo best' (k + 1)
    unfolding in_turn
    ins_again q = record {
      low = omega (arith, I.low);
      high = omega arith;
      found = rw q (go (read_as b k e) (eqb l.hub u) (eqb-true l.hub u) (eqb-false l.hub u));
    }
      where
        go : ReadsAs (tables_of b) k l → (t : Bool) → (t ≡ true → l.hub ≡ u) → (t ≡ false → l.hub ≡ u → ⊥) →
            FoundIn (Candidate (tables_of b) u v (k + 1)) c (cond t (taken c l.dep l.arr best) best)
        go R true y n' =
            rw (← R.dep, ← R.arr) (ins_own (good S) (from_stop S) (to_stop S) c k best I.low (R.hub ∙ y refl) I.found)
        go R false y n' = ins_none (good S) (from_stop S) (to_stop S) c k best (λ h. n' refl (sym R.hub ∙ h)) I.found

    pub ins_stop : u < l.hub → InsDone b u v c inTo best inTo
    ins_stop h = record {
      low = omega (arith, I.low);
      high = le_refl inTo;
      found =
          rw (← S.in_set.end)
          (ins_past (good S) (from_stop S) (to_stop S) c k best I.low (omega (arith, S.in_set.end)) (omega (arith, (read_as b k e).hub)) I.found);
    }

  pub ins_done : {best : Option Journey} {k : ℕ} → InsDone b u v c inTo best k → inTo ≤ k → InsDone b u v c inTo best inTo
  ins_done {best} {k} I le = let e : k ≡ inTo = omega (arith, I.high) in subst (InsDone b u v c inTo best) e I

-- the bounds of the two sets, as they are read
pub sets_of : {b : List ℕ} {n u v : ℕ} {o i : Bounds} → GoodFile b n → u < n → v < n → o ≡ bounds_of (tables_of b) outs u → i ≡ bounds_of (tables_of b) ins v →
    Sets b n u v o.start o.end i.start i.end
sets_of G hu hv eo ei = record {
  out_set = record { file = G; owner = hu; start = sym (ap (λ x. x.start) eo); end = sym (ap (λ x. x.end) eo) };
  in_set = record { file = G; owner = hv; start = sym (ap (λ x. x.start) ei); end = sym (ap (λ x. x.end) ei) };
}
