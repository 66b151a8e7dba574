-- What the service of given numbers says, and what was read at a slot of it.
use Rattle.std.specs.Prelude.{ℕ, zero, suc, ◌≤◌, ◌<◌, List, [], ◌∷◌, ◌++◌, Bool, true, false, cond, length, get_or, None, Some}
use Rattle.std.proofs.Math.Path.{◌≡◌, refl, sym, ap}
use Rattle.std.proofs.Common.{◌∙◌}
use native.Mathlib.Omega.{arith}
use Rattle.journeys.specs.declared.Ride.{Ride}
use Rattle.journeys.specs.Service.{Service, RideAt, GoodService}
use Rattle.timetable.specs.declared.Given.{Given}
use Rattle.timetable.specs.Numbers.{run_at, GoodNumbers, GoodRunAt}
use Rattle.timetable.proofs.NumbersLaws.{good_run_at}
use Rattle.timetable.specs.Slots.{most_slots, slots_of, slot_run, listed, ride_of, service_of, slot_at, IsRide}

module _ (given : Given) (list : List ℕ) where
  pub service_stops : (service_of given list).stops ≡ given.stops
  unfolding service_of
  service_stops = refl

  pub service_slots : (service_of given list).slots ≡ slots_of given
  unfolding service_of
  service_slots = refl

  pub service_ride : (i : ℕ) → (service_of given list).ride i ≡ ride_of (run_at list (slot_run i))
  unfolding service_of
  service_ride i = refl

  -- every slot is in force, with the ride of its run
  pub slot_is : (i : ℕ) → Some (ride_of (run_at list (slot_run i))) ≡ slot_at (service_of given list) i
  unfolding service_of slot_at
  slot_is i = refl

-- the run that stands at a slot is one of the given runs
pub slot_run_below : (given : Given) (i : ℕ) → i < slots_of given → slot_run i < given.runs
unfolding slots_of slot_run
slot_run_below given i lt = lt

module _ {given : Given} {list : List ℕ} (g : GoodNumbers given list) where
  -- the service of good numbers is good
  pub good_service : GoodService (service_of given list)
  unfolding service_of slots_of slot_run
  good_service =
      record {
        from_stop = λ i lt f. (g.runs i lt).from_stop;
        to_stop = λ i lt f. (g.runs i lt).to_stop;
        apart = λ i lt f. (g.runs i lt).apart;
        later = λ i lt f. (g.runs i lt).later;
        last = λ i lt f. (g.runs i lt).last;
      }

  pub slots_few : slots_of given ≤ most_slots
  unfolding slots_of
  slots_few = g.few_runs

  -- the run that stands at a slot can be read
  pub slot_run_at : (i : ℕ) → i < slots_of given → GoodRunAt list (slot_run i)
  unfolding slots_of slot_run
  slot_run_at i lt = good_run_at g i lt

-- ---- what is listed

pub listed-length : (l : List ℕ) → length (listed l) ≡ length l
unfolding listed
listed-length [] = refl
listed-length (i ∷ l) = ap suc (listed-length l)

pub listed-append : (l m : List ℕ) → listed (l ++ m) ≡ listed l ++ listed m
unfolding listed
listed-append [] m = refl
listed-append (i ∷ l) m = ap (λ x. slot_run i ∷ x) (listed-append l m)

pub listed_at : (l : List ℕ) (k : ℕ) → k < length l → get_or (listed l) k 0 ≡ slot_run (get_or l k 0)
unfolding listed
listed_at [] k lt = absurd (omega arith)
listed_at (i ∷ l) zero lt = refl
listed_at (i ∷ l) (suc k) lt = listed_at l k (omega arith)

pub listed_one : (i : ℕ) → listed (i ∷ []) ≡ slot_run i ∷ []
unfolding listed
listed_one i = refl

-- ---- what was read at a slot

module _ (S : Service) (i : ℕ) where
  slot_forced : {r : Ride} (f : Bool) → cond f (Some (S.ride i)) None ≡ Some r → (f ≡ true) × (S.ride i ≡ r)
  slot_forced true e = (refl, cc)
  slot_forced false e = cc

  slot_off : (f : Bool) → cond f (Some (S.ride i)) None ≡ None → f ≡ false
  slot_off true e = cc
  slot_off false e = refl

  -- a ride in force
  slot_ride : {r : Ride} → i < S.slots → slot_at S i ≡ Some r → RideAt S i r.from r.to r.dep r.arr
  unfolding slot_at
  slot_ride lt e =
      let z = slot_forced (S.in_force i) e in
      let f = z.1 in
      record {
        below = lt;
        forced = z.0;
        goes = ap (λ x. x.from) f;
        ends = ap (λ x. x.to) f;
        leaves = ap (λ x. x.dep) f;
        arrives = ap (λ x. x.arr) f;
      }

  -- or none
  slot_none : slot_at S i ≡ None → (u v d a : ℕ) → ¬ (RideAt S i u v d a)
  unfolding slot_at
  slot_none e u v d a x =
      let z = sym x.forced ∙ slot_off (S.in_force i) e in
      cc

-- one slot has one ride: read as r, it is u to v at these minutes exactly if r is
module _ {S : Service} {i : ℕ} {r : Ride} (R : RideAt S i r.from r.to r.dep r.arr) {u v d a : ℕ} where
  pub ride_is : RideAt S i u v d a → IsRide r u v d a
  ride_is x =
      record {
        goes = sym R.goes ∙ x.goes;
        ends = sym R.ends ∙ x.ends;
        leaves = sym R.leaves ∙ x.leaves;
        arrives = sym R.arrives ∙ x.arrives;
      }

  pub is_ride : IsRide r u v d a → RideAt S i u v d a
  is_ride x =
      record {
        below = R.below;
        forced = R.forced;
        goes = R.goes ∙ x.goes;
        ends = R.ends ∙ x.ends;
        leaves = R.leaves ∙ x.leaves;
        arrives = R.arrives ∙ x.arrives;
      }

-- of good numbers: a ride that was read at a slot is in force there; where none was, none is
module _ {given : Given} {list : List ℕ} (g : GoodNumbers given list) (i : ℕ) where
  pub read_ride : {r : Ride} → i < slots_of given → slot_at (service_of given list) i ≡ Some r →
      RideAt (service_of given list) i r.from r.to r.dep r.arr
  read_ride lt e = slot_ride (service_of given list) i (omega (arith, service_slots given list)) e

  pub read_none : slot_at (service_of given list) i ≡ None → (u v d a : ℕ) → ¬ (RideAt (service_of given list) i u v d a)
  read_none e = slot_none (service_of given list) i e

  pub read_idle : slot_at (service_of given list) i ≡ None → (service_of given list).in_force i ≡ false
  unfolding slot_at
  read_idle e = slot_off (service_of given list) i ((service_of given list).in_force i) e
