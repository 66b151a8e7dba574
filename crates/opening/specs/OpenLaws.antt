-- Laws of opening: what the ride that was found, the halves that meet and the rides of each say of the whole.
use Rattle.std.specs.Prelude as std
use Rattle.std.specs.Prelude.{ℕ, min, ◌+◌, ◌-◌, ◌≤◌, ◌<◌, ◌≡◌, refl, List, [], ◌∷◌, ◌++◌, length, None, Some}
use Rattle.std.proofs.Common.{sym, ap, subst, subst₂, ◌∙◌, arith, length-append}
use Rattle.std.proofs.Math.Option.{some}
use borrow.Rule.Slice.PartMut.{put_mid, mid_of}
use Rattle.loops.specs.First.{FirstAt}
use Rattle.loops.specs.Written.{written}
use Rattle.loops.specs.WrittenLaws.{written_two}
use Rattle.kinds.specs.Limits.{no_pivot, last_minute}
use Rattle.journeys.specs.Service.{Service}
use Rattle.journeys.specs.Tables.{Tables, of_out, of_in, Label, GoodTables}
use Rattle.journeys.specs.Check.{Halves}
use Rattle.journeys.specs.Rides.{Opens, ride, both}
use Rattle.journeys.proofs.SketchLaws.{label_later, label_last, label_from, label_to, one_by_dep, one_by_arr}
use Rattle.journeys.proofs.RidesLaws.{opens_short, parts, only_ride}
use Rattle.journeys.specs.Paths.{Parts}
use Rattle.tables.specs.File.{tables_of, pivot_of}
use Rattle.tables.specs.TablesLaws.{pivot_none, pivot_some, good_tables}
use Rattle.timetable.specs.declared.Given.{Given}
use Rattle.timetable.specs.Slots.{slots_of, slot_run, listed, service_of}
use Rattle.timetable.proofs.SlotsLaws.{service_slots, listed_one, listed-append, listed-length}
use Rattle.label_sets.specs.declared.Span.{Span}
use Rattle.label_sets.specs.declared.Meeting.{Meeting}
use Rattle.label_sets.specs.Starts.{Started}
use Rattle.label_sets.specs.StartsLaws.{started_stops}
use Rattle.label_sets.specs.Sets.{SpanIn, MeetAt, SpanRide}
use Rattle.opening.specs.Opening.{first_half, second_half, SpanOpens, Listed, OpenedInto}

-- ---- with no pivot

-- i is the lowest slot whose ride has the label's ends and minutes
module _ (given : Given) (runs : List ℕ) (s : Span) {i : ℕ} (F : FirstAt (SpanRide (service_of given runs) s) 0 (slots_of given) i)
    (no-pivot : s.pivot ≡ no_pivot) (T : Tables) where
  pub run_missing : slots_of given ≤ i → (l : List ℕ) → ¬ (SpanOpens (service_of given runs) T s l)
  run_missing ge l o =
      let r = (only_ride (rw (pivot_none s.pivot no-pivot) at o)).0 in
      F.passed.none r.it (omega arith) (omega (arith, r.has.below, service_slots given runs)) r.has

  pub run_listed : i < slots_of given → {before after : List ℕ} → after ≡ written (slot_run i ∷ []) before →
      Listed (SpanOpens (service_of given runs) T s) before after 1
  run_listed lt {before} e = record {
    rides = i ∷ [];
    are = rw (pivot_none s.pivot no-pivot) (ride i (F.here lt) (λ k l q. F.passed.none k (omega arith) l q));
    count = refl;
    holds = e ∙ ap (λ l. written l before) (sym (listed_one i));
  }

-- ---- with a pivot

-- a label's pivot is a stop
pub label_pivot : {T : Tables} → GoodTables T → {u v d a : ℕ} (p : ℕ) → Label T u v d a (pivot_of p) → (p ≡ no_pivot → ⊥) → p < T.stops
label_pivot {T} G {u} {v} {d} {a} p l n = go (subst (Label T u v d a) (pivot_some p n) l)
  where
    go : Label T u v d a (some p) → p < T.stops
    go (k, of_out e) = G.pivot_high e
    go (k, of_in e) = G.pivot_high e

-- the two labels that meet at the pivot of s
module _ {b : List ℕ} {n : ℕ} {room : List ℕ} (R : Started b n room) {s : Span} {h : Meeting} (M : MeetAt (tables_of b) s h) where
  good : GoodTables (tables_of b)
  good = good_tables R.file

  -- their stops are stops
  pub first_in : SpanIn n (first_half s h)
  first_in = record {
    from_stop = omega (arith, label_from good M.first, started_stops R);
    to_stop = omega (arith, label_to good M.first, started_stops R);
    pivot_stop = λ f. omega (arith, label_pivot good h.first M.first f, started_stops R);
  }

  pub second_in : SpanIn n (second_half s h)
  second_in = record {
    from_stop = omega (arith, label_from good M.second, started_stops R);
    to_stop = omega (arith, label_to good M.second, started_stops R);
    pivot_stop = λ f. omega (arith, label_pivot good h.second M.second f, started_stops R);
  }

  -- they are shorter
  pub first_shorter : h.mid - s.dep < s.arr - s.dep
  first_shorter = omega (arith, M.meets, label_later good M.first, label_later good M.second)

  pub second_shorter : s.arr - h.start < s.arr - s.dep
  second_shorter = omega (arith, M.meets, label_later good M.first, label_later good M.second)

  module _ {S : Service} where
    -- their rides are few
    pub few_first : {before after : List ℕ} {k : ℕ} → Listed (SpanOpens S (tables_of b) (first_half s h)) before after k → k ≤ last_minute
    few_first L = omega (arith, L.count, opens_short good M.first L.are, label_last good M.first)

    pub few_second : {before after : List ℕ} {k : ℕ} → Listed (SpanOpens S (tables_of b) (second_half s h)) before after k → k ≤ last_minute
    few_second L = omega (arith, L.count, opens_short good M.second L.are, label_last good M.second)

    module _ (some_pivot : s.pivot ≡ no_pivot → ⊥) where
      -- the rides of the first, and those of the second in the part of the list that the first left
      pub both_listed : {before x y : List ℕ} {k m p : ℕ} → Listed (SpanOpens S (tables_of b) (first_half s h)) before x k →
          Listed (SpanOpens S (tables_of b) (second_half s h)) (mid_of p (length x - p) x) y m → length x ≡ length before → p ≡ min k (length x) →
          Listed (SpanOpens S (tables_of b) s) before (put_mid p (length x - p) x y) (k + m)
      both_listed L N long e = record {
        rides = L.rides ++ N.rides;
        are = rw (pivot_some s.pivot some_pivot) (both M.first M.second M.meets L.are N.are);
        count = omega (arith, L.count, N.count, length-append L.rides N.rides);
        holds = rw (listed-append L.rides N.rides) (written_two (listed L.rides) (listed N.rides) _ _ _ _ L.holds N.holds
            (λ h. omega (arith, L.count, listed-length L.rides)) (λ h. omega (arith, L.count, listed-length L.rides)));
      }

      parts_of : {l : List ℕ} → SpanOpens S (tables_of b) s l → Parts S (tables_of b) s.from s.pivot s.to s.dep s.arr l
      parts_of o = parts (rw (pivot_some s.pivot some_pivot) at o)

      pub first_missing : ((l : List ℕ) → ¬ (SpanOpens S (tables_of b) (first_half s h) l)) → (l : List ℕ) → ¬ (SpanOpens S (tables_of b) s l)
      first_missing n l o =
          let r = parts_of o in
          let f = one_by_dep good r.first M.first in
          n r.rides₁ (subst₂ (λ y z. Opens S (tables_of b) s.from s.pivot s.dep y z r.rides₁) f.0 f.1 r.opens₁)

      pub second_missing : ((l : List ℕ) → ¬ (SpanOpens S (tables_of b) (second_half s h) l)) → (l : List ℕ) → ¬ (SpanOpens S (tables_of b) s l)
      second_missing n l o =
          let r = parts_of o in
          let f = one_by_arr good r.second M.second in
          n r.rides₂ (subst₂ (λ y z. Opens S (tables_of b) s.pivot s.to y s.arr z r.rides₂) f.0 f.1 r.opens₂)

-- the two labels are not there, or do not meet
pub halves_missing : {S : Service} {T : Tables} (s : Span) → (s.pivot ≡ no_pivot → ⊥) → ¬ (Halves T s.from s.pivot s.to s.dep s.arr) →
    (l : List ℕ) → ¬ (SpanOpens S T s l)
halves_missing s some_pivot n l o =
    let r = parts (rw (pivot_some s.pivot some_pivot) at o) in
    n (record { mid = r.mid; start = r.start; pivot₁ = r.pivot₁; pivot₂ = r.pivot₂; first = r.first; second = r.second; meets = r.meets })

-- ---- where one list at most is the rides, no second answer and no second list meet the contract
pub opened_one : (P : List ℕ → Type 0) → ((l m : List ℕ) → P l → P m → l ≡ m) → (before x y : List ℕ) (r s : std.Option ℕ) →
    OpenedInto P before x r → OpenedInto P before y s → (r ≡ s) × (x ≡ y)
opened_one P one before x y (Some j) (Some k) f g =
    let e = one f.rides g.rides f.are g.are in
    (ap Some (f.count ∙ ap length e ∙ sym g.count), f.holds ∙ ap (λ l. written (listed l) before) e ∙ sym g.holds)
opened_one P one before x y (Some j) None f g = absurd (g.0 f.rides f.are)
opened_one P one before x y None (Some k) f g = absurd (f.0 g.rides g.are)
opened_one P one before x y None None f g = (refl, f.1 ∙ sym g.1)
