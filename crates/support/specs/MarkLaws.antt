-- Laws of the slots noted at labels: one slot more, and what the note says of a label.
use Rattle.std.specs.Prelude.{ℕ, ◌+◌, ◌*◌, ◌≤◌, ◌<◌, ◌≡◌, refl, List, Bool, false, length, set}
use Rattle.std.proofs.Common.{sym, ap, subst, ◌∙◌, arith, length-set, get_or-set_same, get_or-set_other}
use Rattle.std.proofs.Math.Option.{Option}
use Rattle.std.proofs.Math.Decide.{ℕ_discrete}
use Rattle.loops.specs.Tells.{Tells}
use Rattle.loops.specs.TellsLaws.{tells_no, tells_as}
use Rattle.loops.specs.Decide.{dec_then, dec_map}
use Rattle.loops.specs.Filled.{filled}
use Rattle.kinds.specs.Limits.{most_labels}
use Rattle.journeys.specs.declared.Ride.{Ride}
use Rattle.journeys.specs.Service.{Service, RideAt}
use Rattle.journeys.specs.Tables.{Side, outs, ins, Tables, Entry, LabelAt, of_out, of_in, Label, GoodTables}
use Rattle.journeys.proofs.JourneyLaws.{ride_from, ride_to}
use Rattle.journeys.proofs.SketchLaws.{number_by_dep}
use Rattle.tables.specs.File.{start_of, pivot_of, tables_of}
use Rattle.tables.specs.TablesLaws.{entry_only, good_stops, tables_within}
use Rattle.tables.specs.Good.{GoodFile}
use Rattle.timetable.specs.declared.Given.{Given}
use Rattle.timetable.specs.Slots.{service_of, IsRide}
use Rattle.timetable.proofs.SlotsLaws.{good_service, ride_is, is_ride}
use Rattle.label_sets.specs.Starts.{starts_room}
use Rattle.label_sets.specs.StartsLaws.{starts_written, starts_kept}
use Rattle.label_sets.specs.declared.Span.{Span}
use Rattle.label_sets.specs.Sets.{SpanRide}
use Rattle.both.specs.Both.{work_room, BothGood}
use Rattle.both.specs.BothLaws.{both_stops}
use Rattle.support.specs.Spans.{SpanAt}
use Rattle.support.specs.Marks.{RideAmong, noted, Notes, MarkedWith, MarkedTo}

-- ---- a number says one label

module _ (b : List ℕ) {k : ℕ} where
  label_one : {u v d a x y e c : ℕ} {p q : Option ℕ} → LabelAt (tables_of b) k u v d a p → LabelAt (tables_of b) k x y e c q →
      (u ≡ x) × (v ≡ y) × (d ≡ e) × (a ≡ c)
  label_one (of_out x) (of_out y) = ((entry_only b x y).1, sym x.hub ∙ y.hub, sym x.dep ∙ y.dep, sym x.arr ∙ y.arr)
  label_one (of_in x) (of_in y) = (sym x.hub ∙ y.hub, (entry_only b x y).1, sym x.dep ∙ y.dep, sym x.arr ∙ y.arr)
  label_one (of_out x) (of_in y) = let e = (entry_only b x y).0 in cc
  label_one (of_in x) (of_out y) = let e = (entry_only b x y).0 in cc

below : {b : List ℕ} {n k o h d a : ℕ} {p : Option ℕ} → GoodFile b n → (side : Side) → Entry (tables_of b) side k o h d a p → k < most_labels
below {o = o} g side x = omega (arith, x.high, tables_within g side o (omega (arith, x.owner, good_stops g)), g.room.few_labels)

pub label_below : {b : List ℕ} {n k u v d a : ℕ} {p : Option ℕ} → GoodFile b n → LabelAt (tables_of b) k u v d a p → k < most_labels
label_below {b} {n} {k} g (of_out x) = below g outs x
label_below {b} {n} {k} g (of_in x) = below g ins x

-- ---- one slot noted

module _ {T : Tables} {r : Ride} {i : ℕ} {room : List ℕ} where
  pub not_marked : ((p : Option ℕ) → ¬ (Label T r.from r.to r.dep r.arr p)) → MarkedWith T r i room room
  not_marked n = record { long = refl; here = λ k p x. absurd (n p (k, x)); other = λ q f. refl }

  pub marked_at : GoodTables T → {k : ℕ} {p : Option ℕ} → LabelAt T k r.from r.to r.dep r.arr p → starts_room + k < length room →
      MarkedWith T r i room (set room (starts_room + k) i)
  marked_at G {k} {p} x lt = record {
    long = simp length-set;
    here = λ j q y. ap (noted (set room (starts_room + k) i)) (number_by_dep G y x) ∙ get_or-set_same room (starts_room + k) i 0 lt;
    other = λ q f. get_or-set_other room (starts_room + k) q i 0 (λ e. f k p x (sym e));
  }

-- ---- the slots noted one after the other

dec_ride : (r : Ride) (u v d a : ℕ) → Dec (IsRide r u v d a)
dec_ride r u v d a =
    dec_map (λ x. record { goes = x.0; ends = x.1.0; leaves = x.1.1.0; arrives = x.1.1.1 })
    (λ x. (x.goes, (x.ends, (x.leaves, x.arrives))))
    (dec_then (ℕ_discrete r.from u) (λ _. dec_then (ℕ_discrete r.to v) (λ _. dec_then (ℕ_discrete r.dep d) (λ _. ℕ_discrete r.arr a))))

-- the ends of a ride are stops of the tables
pub ride_ends : {b : List ℕ} {n : ℕ} {given : Given} {runs : List ℕ} → BothGood b n given runs → {i u v d a : ℕ} →
    RideAt (service_of given runs) i u v d a → (u < n) × (v < n)
ride_ends B R =
    let G = good_service B.numbers in
    (omega (arith, ride_from G R, both_stops B), omega (arith, ride_to G R, both_stops B))

pub marks_begin : {b : List ℕ} {n : ℕ} {given : Given} {runs : List ℕ} (before : List ℕ) {x : List ℕ} → BothGood b n given runs →
    work_room ≤ length before → length x ≡ length before → x ≡ filled (start_of b) (2 * n + 1) before → MarkedTo b n given runs x 0
marks_begin before B long same e = record {
  both = B;
  started = starts_written before B.file (omega arith) e;
  long = omega (arith, same);
  notes = λ k s x r. absurd (omega (arith, r.1));
}

module _ {b : List ℕ} {n : ℕ} {given : Given} {runs room : List ℕ} {i : ℕ} (M : MarkedTo b n given runs room i) where
  -- one of the first slots, if not the last of them
  sooner : (s : Span) → ¬ (SpanRide (service_of given runs) s i) → RideAmong (service_of given runs) (i + 1) s → RideAmong (service_of given runs) i s
  sooner s f r = (r.0, lower (ℕ_discrete r.0 i), r.2)
    where
      lower : Dec (r.0 ≡ i) → r.0 < i
      lower (yes y) = absurd (f (subst (SpanRide (service_of given runs) s) y r.2))
      lower (no y) = omega (arith, r.1)

  -- a slot that is not in force
  pub marks_idle : {after : List ℕ} → after ≡ room → ((u v d a : ℕ) → ¬ (RideAt (service_of given runs) i u v d a)) → MarkedTo b n given runs after (i + 1)
  marks_idle e f = rw e (record {
    both = M.both;
    started = M.started;
    long = M.long;
    notes = λ k s x r. let old = M.notes k s x (sooner s (f _ _ _ _) r) in (omega (arith, old.0), old.1);
  })

  -- a slot with a ride
  module _ {ride : Ride} (R : RideAt (service_of given runs) i ride.from ride.to ride.dep ride.arr) {after : List ℕ}
      (W : MarkedWith (tables_of b) ride i room after) where
    more : (k : ℕ) (s : Span) → SpanAt (tables_of b) k s → Notes (service_of given runs) (i + 1) after k s
    more k s x r = go (dec_ride ride s.from s.to s.dep s.arr)
      where
        there : IsRide ride s.from s.to s.dep s.arr → noted after k ≡ i
        there q = W.here k (pivot_of s.pivot) (rw (q.goes, q.ends, q.leaves, q.arrives) x)

        away : ¬ (IsRide ride s.from s.to s.dep s.arr) → (j : ℕ) (p : Option ℕ) →
            LabelAt (tables_of b) j ride.from ride.to ride.dep ride.arr p → starts_room + j ≡ starts_room + k → ⊥
        away f j p y h =
            let j≡k : j ≡ k = omega arith in
            let z = label_one b (subst (λ m. LabelAt (tables_of b) m ride.from ride.to ride.dep ride.arr p) j≡k y) x in
            f (record { goes = z.0; ends = z.1; leaves = z.2; arrives = z.3 })

        go : Dec (IsRide ride s.from s.to s.dep s.arr) → (noted after k < i + 1) × SpanRide (service_of given runs) s (noted after k)
        go (yes q) = (omega (arith, there q), subst (SpanRide (service_of given runs) s) (sym (there q)) (is_ride R q))
        go (no f) =
            let old = M.notes k s x (sooner s (λ y. f (ride_is R y)) r) in
            let same = W.other (starts_room + k) (away f) in
            (omega (arith, same, old.0), subst (SpanRide (service_of given runs) s) (sym same) old.1)

    pub marks_more : MarkedTo b n given runs after (i + 1)
    marks_more = record {
      both = M.both;
      started = starts_kept M.started W.long (λ set lt. W.other set (λ k p x h. omega arith));
      long = omega (arith, W.long, M.long);
      notes = more;
    }

-- ---- the note asked

module _ (S : Service) (count : ℕ) (room : List ℕ) (k : ℕ) (s : Span) (N : Notes S count room k s) where
  pub no_note : count ≤ noted room k → Tells (RideAmong S count s) false
  no_note h = tells_no (λ r. omega (arith, (N r).0))

  pub note_tells : {r : Bool} → noted room k < count → Tells (SpanRide S s (noted room k)) r → Tells (RideAmong S count s) r
  note_tells lt t = tells_as ((λ x. (noted room k, lt, x)), (λ r. (N r).1)) t
