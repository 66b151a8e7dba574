-- The timetable in force, slot by slot: which run stands at a slot, and with which ride. All that reads rides reads them here.
use Rattle.std.specs.Prelude.{ℕ, ◌≡◌, List, [], ◌∷◌, true, cond, None, Option, Some}
use Rattle.kinds.specs.Limits.{most_runs}
use Rattle.kinds.specs.declared.Run.{Run}
use Rattle.journeys.specs.declared.Ride.{Ride}
use Rattle.journeys.specs.Service.{Service}
use Rattle.timetable.specs.declared.Given.{Given}
use Rattle.timetable.specs.Numbers.{run_at}

-- a slot a run
abbrev pub most_slots : ℕ
most_slots = most_runs

unfoldable pub slots_of : Given → ℕ
slots_of given = given.runs

-- the run that stands at a slot: each at the slot of its number
unfoldable pub slot_run : ℕ → ℕ
slot_run i = i

-- "A ride is listed as its run number": what is listed for the rides at these slots
unfoldable pub listed : List ℕ → List ℕ
listed [] = []
listed (i ∷ l) = slot_run i ∷ listed l

-- a run's ends and minutes
abbrev pub ride_of : Run → Ride
ride_of r = record { from = r.from; to = r.to; dep = r.dep; arr = r.arr }

-- "its runs at their stated minutes, and nothing else, are in force"
unfoldable pub service_of : Given → List ℕ → Service
service_of given list =
    record {
      stops = given.stops;
      slots = slots_of given;
      in_force = λ i. true;
      ride = λ i. ride_of (run_at list (slot_run i));
    }

-- what stands at slot i of a service
unfoldable pub slot_at : Service → ℕ → Option Ride
slot_at S i = cond (S.in_force i) (Some (S.ride i)) None

-- "with its ends and minutes"
pub record IsRide (r : Ride) (u v d a : ℕ) : Type 0 where
  pub goes : r.from ≡ u
  pub ends : r.to ≡ v
  pub leaves : r.dep ≡ d
  pub arrives : r.arr ≡ a
