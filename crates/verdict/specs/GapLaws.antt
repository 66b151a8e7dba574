-- What the comparisons tell, and the turns of the search for gaps.
use Rattle.std.specs.Prelude.{ℕ, ◌+◌, ◌≤◌, ◌<◌, ◌≡◌, List, Bool, true, false, ◌≢◌, ◌↔◌, length, leb, None, Option, Some}
use Rattle.std.proofs.Common.{sym, subst, arith}
use Rattle.loops.specs.FailsLaws.{holds_none, holds_more}
use Rattle.loops.specs.Tells.{Tells}
use Rattle.loops.specs.TellsLaws.{tells_as}
use Rattle.loops.specs.ComparesLaws.{tells_le}
use Rattle.journeys.specs.declared.Ride.{Ride}
use Rattle.journeys.specs.Service.{Service, RideAt}
use Rattle.journeys.specs.Tables.{Tables, outs, ins}
use Rattle.journeys.proofs.JourneyLaws.{ride_last}
use Rattle.journeys.specs.Check.{NoGap, NoGapAt, NoGaps}
use Rattle.tables.specs.File.{tables_of}
use Rattle.tables.specs.TablesLaws.{good_tables}
use Rattle.timetable.specs.declared.Given.{Given}
use Rattle.timetable.specs.Slots.{service_of, IsRide}
use Rattle.timetable.proofs.SlotsLaws.{good_service, ride_is}
use Rattle.label_sets.specs.Starts.{starts_room, Started}
use Rattle.label_sets.specs.StartsLaws.{started_stops, started_few}
use Rattle.both.specs.Both.{work_room, BothGood}
use Rattle.support.specs.MarkLaws.{ride_ends}
use Rattle.verdict.specs.declared.Soonest.{Soonest}
use Rattle.verdict.specs.Early.{Reached, Arrivals, Early}
use Rattle.verdict.specs.EarlyLaws.{early_arrival, gap_here, gap_on}
use Rattle.verdict.specs.Minutes.{near, far_at, far, both_room, SameBefore}
use Rattle.verdict.specs.MinutesLaws.{started_kept, reached_same}
use Rattle.verdict.specs.Gaps.{NoGapOf, RideIn, Compared, FirstGap, GapIn, ClearTo, SearchedTo, StopsTo}

-- ---- one ride

-- a ride of good numbers
pub ride_in : {b : List ℕ} {n : ℕ} {given : Given} {list : List ℕ} → BothGood b n given list → {i : ℕ} {r : Ride} →
    RideAt (service_of given list) i r.from r.to r.dep r.arr → RideIn n r
ride_in B R = let e = ride_ends B R in record { from_stop = e.0; to_stop = e.1; last = ride_last (good_service B.numbers) R }

-- the hubs have been reached from its start, and then from its end
pub both_reached : {b : List ℕ} {n : ℕ} {room : List ℕ} → Started b n room → {r : Ride} → RideIn n r → both_room ≤ length room → {x : List ℕ} →
    Reached (tables_of b) r.from r.dep ((tables_of b).end outs r.from) (near x) → SameBefore starts_room room x → {y : List ℕ} →
    Reached (tables_of b) r.to r.arr ((tables_of b).end outs r.to) (far y) → SameBefore far_at x y → Compared b n y r
both_reached {b} {n} s q long {x} N e {y} F f =
    record {
      started = started_kept (omega arith) (started_kept (omega arith) s e) f;
      long = omega (arith, e.long, f.long);
      last = q.last;
      by_near = reached_same (good_tables s.file) (omega (arith, started_stops s, q.from_stop)) (near x) (near y)
          (λ h lt. f.same (starts_room + h) (omega (arith, started_few s))) N;
      by_far = F;
    }

-- ---- one ride and one stop

module _ {b : List ℕ} {n : ℕ} {room : List ℕ} {r : Ride} (c : Compared b n room r) {v : ℕ} {s : Soonest} (lt : v < n) (other : v ≢ r.from)
    (x : Arrivals (tables_of b) (near room) (far room) v ((tables_of b).end ins v) s) where
  stop : v < (tables_of b).stops
  stop = omega (arith, started_stops c.started)

  -- early(u, v, d)
  by_ride : Early (tables_of b) r.from v r.dep s.near
  by_ride = early_arrival (good_tables c.started.file) other stop c.by_near x.by_near

  tells_so : {e f : ℕ} → (e ≤ f) ↔ NoGap (tables_of b) r.from r.to r.dep r.arr v → Tells (NoGapOf (tables_of b) r v) (leb e f)
  tells_so {e} {f} q = tells_as ((λ p _. q.0 p), (λ g. q.1 (g other))) (tells_le e f)

  pub tells_here : v ≡ r.to → Tells (NoGapOf (tables_of b) r v) (leb s.near r.arr)
  tells_here q =
      let E = subst (λ (z : ℕ). Early (tables_of b) r.from z r.dep s.near) q by_ride in
      tells_so (subst (λ (z : ℕ). (s.near ≤ r.arr) ↔ NoGap (tables_of b) r.from r.to r.dep r.arr z) (sym q)
      (gap_here (good_tables c.started.file) E c.last))

  pub tells_on : v ≢ r.to → Tells (NoGapOf (tables_of b) r v) (leb s.near s.far)
  tells_on m =
      let G = good_tables c.started.file in
      tells_so (gap_on G m by_ride (early_arrival G m stop c.by_far x.by_far))

-- slot i, as it was read
module _ {S : Service} {T : Tables} {i : ℕ} where
  pub at_ride : {r : Ride} {v : ℕ} {t : Bool} → RideAt S i r.from r.to r.dep r.arr → Tells (NoGapOf T r v) t → Tells (NoGapAt S T i v) t
  at_ride {r} {v} R q = tells_as ((λ f u x d a z. at_ends f (ride_is R z)), (λ g. g _ _ _ _ R)) q
    where
      at_ends : {u x d a : ℕ} → NoGapOf T r v → IsRide r u x d a → v ≢ u → NoGap T u x d a v
      at_ends f e = rw (← e.goes, ← e.ends, ← e.leaves, ← e.arrives) f

-- ---- the slots

module _ {S : Service} {b : List ℕ} {n : ℕ} {room : List ℕ} {i : ℕ} (s : SearchedTo S b n room i) where
  stops_are : (tables_of b).stops ≡ n
  stops_are = started_stops s.started

  searched_more : i < S.slots → ClearTo S (tables_of b) i n → SearchedTo S b n room (i + 1)
  searched_more lt c = record { high = omega arith; started = s.started; long = s.long; clear = holds_more s.clear c }

  -- a slot that is not in force has no gap
  pub searched_idle : {after : List ℕ} → after ≡ room → i < S.slots → ((u v d a : ℕ) → ¬ (RideAt S i u v d a)) → SearchedTo S b n after (i + 1)
  searched_idle e lt f = rw e (searched_more lt (record { low = omega arith; each = λ v le m u x d a z. absurd (f u x d a z) }))

  pub no_gaps : S.slots ≤ i → NoGaps S (tables_of b)
  no_gaps ge j w l u x d a r m =
      (s.clear.each j (omega arith) (omega (arith, r.below))).each w (omega arith) (omega (arith, stops_are)) u x d a r m

pub searched_none : {S : Service} {b : List ℕ} {n : ℕ} {room : List ℕ} → Started b n room → work_room ≤ length room → SearchedTo S b n room 0
searched_none r long = record { high = omega arith; started = r; long = long; clear = holds_none }

-- ---- the stops of a slot

pub stops_begin : {S : Service} {b : List ℕ} {n : ℕ} {room : List ℕ} {i : ℕ} → SearchedTo S b n room i → {r : Ride} →
    RideAt S i r.from r.to r.dep r.arr → {x : List ℕ} → length x ≡ length room → Compared b n x r → StopsTo S b n x r i 0
stops_begin s R e c = record {
  searched = record { high = s.high; started = c.started; long = omega (arith, s.long); clear = s.clear };
  ride = R;
  compared = c;
  high = omega arith;
  clear = holds_none;
}

module _ {S : Service} {b : List ℕ} {n : ℕ} {room : List ℕ} {r : Ride} {i v : ℕ} (s : StopsTo S b n room r i v) where
  pub stops_more : {t : Bool} → v < n → Tells (NoGapOf (tables_of b) r v) t → t ≡ true → StopsTo S b n room r i (v + 1)
  stops_more lt q e = record {
    searched = s.searched;
    ride = s.ride;
    compared = s.compared;
    high = omega arith;
    clear = holds_more s.clear ((at_ride s.ride q).holds e);
  }

  pub stops_end : {after : List ℕ} → after ≡ room → n ≤ v → SearchedTo S b n after (i + 1)
  stops_end e ge = rw e (searched_more s.searched s.ride.below (subst (ClearTo S (tables_of b) i) (omega (arith, s.high)) s.clear))

  pub stops_fail : {t : Bool} → v < n → Tells (NoGapOf (tables_of b) r v) t → t ≡ false → FirstGap S (tables_of b) i v
  stops_fail lt q e =
      let are = stops_are s.searched in
      record {
        slot = s.ride.below;
        stop = omega (arith, are);
        fault = (at_ride s.ride q).fails e;
        runs_before = λ j w l m. (s.searched.clear.each j (omega arith) l).each w (omega arith) (omega (arith, are));
        stops_before = λ w l. s.clear.each w (omega arith) l;
      }

-- ---- what the search told

module _ {S : Service} {T : Tables} {g : Option (ℕ × ℕ)} (x : GapIn S T g) where
  pub told_gap : {i v : ℕ} → g ≡ Some (i, v) → FirstGap S T i v
  told_gap e = subst (GapIn S T) e x

  pub told_none : g ≡ None → NoGaps S T
  told_none e = subst (GapIn S T) e x
