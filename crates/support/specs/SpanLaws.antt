-- Laws of support: the label that a set's number and a label read say, and what the look-ups tell of it.
use Rattle.std.specs.Prelude.{ℕ, ◌*◌, ◌%◌, ◌≤◌, ◌<◌, ◌≡◌, List, ◌⊎◌, Bool, true, false}
use Rattle.std.proofs.Common.{ap, ◌∙◌, inl, inr, arith, eq-eqb, ne_eqb}
use Rattle.std.proofs.Math.Option.{Option}
use Rattle.std.proofs.Math.Decide.{ℕ_discrete}
use Rattle.loops.specs.FailsLaws.{holds_start, fails_on}
use Rattle.loops.specs.Tells.{Tells}
use Rattle.loops.specs.TellsLaws.{tells_yes, tells_no, tells_as}
use Rattle.kinds.specs.Limits.{no_pivot}
use Rattle.kinds.specs.Kinds.{GoodPivot}
use Rattle.kinds.specs.declared.Label.{Label}
use Rattle.journeys.specs.Service.{Service}
use Rattle.journeys.specs.Tables.{Side, outs, ins, Tables, Entry, of_out, of_in}
use Rattle.journeys.specs.Check.{Halves, SupportedAt}
use Rattle.tables.specs.File.{start_of, end_of, set_of, owner_of, label_at, pivot_of, tables_of}
use Rattle.tables.specs.FileLaws.{start_none, set_only, set_within}
use Rattle.tables.specs.Good.{GoodFile}
use Rattle.tables.specs.TablesLaws.{reads, tables_start, tables_end, room_entry, entry_label}
use Rattle.label_sets.specs.declared.Span.{Span}
use Rattle.label_sets.specs.declared.Meeting.{Meeting}
use Rattle.label_sets.specs.Sets.{SpanIn, MeetAt}
use Rattle.label_sets.specs.SetsLaws.{met_halves}
use Rattle.label_sets.specs.StartsLaws.{end_read}
use Rattle.support.specs.Spans.{span_of, SpanAt, SpanSupported}
use Rattle.support.specs.Marks.{RideAmong}

-- ---- the label at a number of a set

module _ {b : List ℕ} {n : ℕ} (g : GoodFile b n) {set k : ℕ} (real : set < 2 * n) (low : start_of b set ≤ k) (high : k < end_of b set) where
  own_entry : (side : Side) → set_of side (owner_of set) ≡ set →
      Entry (tables_of b) side k (owner_of set) (label_at b k).hub (label_at b k).dep (label_at b k).arr (pivot_of (label_at b k).pivot)
  own_entry side e =
      room_entry g.room side (owner_of set) k (omega arith)
      (omega (arith, tables_start b side (owner_of set), ap (start_of b) e))
      (omega (arith, tables_end b side (owner_of set), ap (end_of b) e))

  one_set : {side : Side} {o h d a : ℕ} {p : Option ℕ} → Entry (tables_of b) side k o h d a p → set_of side o ≡ set
  one_set {side} {o} x = set_only b (omega (arith, x.low, tables_start b side o)) (omega (arith, x.high, tables_end b side o)) low high

  module _ {l : Label} {w : Span} (el : l ≡ label_at b k) (ew : w ≡ span_of set l) where
    by_out : set % 2 ≡ 0 →
        w ≡ record { from = owner_of set; to = (label_at b k).hub; dep = (label_at b k).dep; arr = (label_at b k).arr; pivot = (label_at b k).pivot }
    unfolding span_of
    by_out e = ew ∙ rw (eq-eqb (set % 2) 0 e, el)

    by_in : (set % 2 ≡ 0 → ⊥) →
        w ≡ record { from = (label_at b k).hub; to = owner_of set; dep = (label_at b k).dep; arr = (label_at b k).arr; pivot = (label_at b k).pivot }
    unfolding span_of
    by_in e = ew ∙ rw (ne_eqb (set % 2) 0 e, el)

    pub span_label : SpanAt (tables_of b) k w
    span_label = go (ℕ_discrete (set % 2) 0)
      where
        go : Dec (set % 2 ≡ 0) → SpanAt (tables_of b) k w
        go (yes e) = rw (by_out e) (of_out (own_entry outs (omega arith)))
        go (no e) = rw (by_in e) (of_in (own_entry ins (omega arith)))

    -- it is all that the tables say at this number
    pub span_only : (S : Service) → SpanSupported S (tables_of b) w → SupportedAt S (tables_of b) k
    span_only S s u v d a p (of_out x) =
        let R = reads b k in
        let e : set % 2 ≡ 0 = omega (arith, one_set x) in
        let o : owner_of set ≡ u = omega (arith, one_set x) in
        rw (← o, ← x.hub, ← x.dep, ← x.arr, ← x.pivot, R.hub, R.dep, R.arr, R.pivot) (rw (by_out e) at s)
    span_only S s u v d a p (of_in x) =
        let R = reads b k in
        let e : set % 2 ≡ 0 → ⊥ = λ q. omega (arith, one_set x) in
        let o : owner_of set ≡ v = omega (arith, one_set x) in
        rw (← o, ← x.hub, ← x.dep, ← x.arr, ← x.pivot, R.hub, R.dep, R.arr, R.pivot) (rw (by_in e) at s)

    pub span_tells : (S : Service) {r : Bool} → Tells (SpanSupported S (tables_of b) w) r → Tells (SupportedAt S (tables_of b) k) r
    span_tells S t = tells_as (span_only S, λ f. f _ _ _ _ _ span_label) t

    pub span_in : SpanIn n w
    span_in = go (ℕ_discrete (set % 2) 0)
      where
        pivot_in : {o h p : ℕ} → (p ≡ no_pivot) ⊎ GoodPivot n o h p → (p ≡ no_pivot → ⊥) → p < n
        pivot_in (inl e) f = absurd (f e)
        pivot_in (inr q) f = q.below

        go : Dec (set % 2 ≡ 0) → SpanIn n w
        go (yes e) =
            let x = entry_label g (own_entry outs (omega arith)) in
            rw (by_out e) (record { from_stop = omega arith; to_stop = omega (arith, x.low); pivot_stop = pivot_in x.pivoted })
        go (no e) =
            let x = entry_label g (own_entry ins (omega arith)) in
            rw (by_in e) (record { from_stop = omega (arith, x.low); to_stop = omega arith; pivot_stop = pivot_in x.pivoted })

-- what a label read says of its set's number
pub ruleset own_label = (set_within, span_label, span_in)

-- how a set's first unsupported label is one of all
pub ruleset by_set = (holds_start, start_none, fails_on, set_within, end_read)

-- ---- support, with a pivot and without

pub by_ride : (S : Service) (T : Tables) (w : Span) {count : ℕ} {r : Bool} → S.slots ≡ count → w.pivot ≡ no_pivot → Tells (RideAmong S count w) r →
    Tells (SpanSupported S T w) r
by_ride S T w q e t =
    rw (eq-eqb w.pivot no_pivot e) (tells_as ((λ x. (x.0, x.2)), (λ x. (x.0, omega (arith, x.1.below), x.1))) t)

module _ (S : Service) (T : Tables) (w : Span) (e : w.pivot ≡ no_pivot → ⊥) where
  pub by_halves : (h : Meeting) → MeetAt T w h → Tells (SpanSupported S T w) true
  by_halves h m = rw (ne_eqb w.pivot no_pivot e) (tells_yes (met_halves w h m))

  pub no_halves : ¬ (Halves T w.from w.pivot w.to w.dep w.arr) → Tells (SpanSupported S T w) false
  no_halves n = rw (ne_eqb w.pivot no_pivot e) (tells_no n)
