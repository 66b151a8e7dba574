-- What an ask with rides says of the timetable, where the check accepts the tables.
use Rattle.std.specs.Prelude.{ℕ, ◌-◌, ◌≤◌, ◌<◌, ◌≡◌, List, ◌++◌, length, replicate, Err, Ok, Result}
use Rattle.loops.specs.Zero.{zeros}
use Rattle.kinds.specs.Refusals.{refusal}
use Rattle.kinds.specs.declared.Refusal.{Refusal}
use Rattle.journeys.specs.declared.Criterion.{Criterion}
use Rattle.journeys.specs.Service.{Service}
use Rattle.journeys.specs.Journey.{Journey, RidesOf}
use Rattle.journeys.specs.Criteria.{Best, Nothing}
use Rattle.journeys.specs.Tables.{Tables}
use Rattle.journeys.specs.Rides.{Chosen}
use Rattle.timetable.specs.Slots.{listed}
use Rattle.asks.specs.declared.Asked.{Asked}
use Rattle.rides.specs.declared.Listed.{Listed}
use Rattle.kinds.specs.declared.Reason.TheVariants as reason

-- the timetable's best journey u to v; what is listed is, run by run, such a journey, its count the number of rides listed, and the rest of
-- the list is zero
pub record BestListed (S : Service) (u v : ℕ) (c : Criterion) (before after : List ℕ) (j : Listed) : Type 0 where
  pub best : Best (Journey S u v) c j.dep j.arr
  pub rides : List ℕ
  pub way : RidesOf S u v j.dep j.arr rides
  pub count : j.rides ≡ length rides
  pub fits : length rides ≤ length before
  pub holds : after ≡ listed rides ++ replicate (length before - length rides) 0

-- that, or 16, no journey fits and the list is all zero
abbrev pub GetsRides : Service → ℕ → ℕ → Criterion → List ℕ → List ℕ → Result Listed Refusal → Type 0
GetsRides S u v c before after (Ok j) = BestListed S u v c before after j
GetsRides S u v c before after (Err r) = (r ≡ refusal reason.NoJourney 0) × Nothing (Journey S u v) c × (after ≡ zeros before)

-- whatever the list's length: of several journeys with the best pair the one that the tables choose is listed
pub record TrulyListed (S : Service) (T : Tables) (q : Asked) (before after : List ℕ) (j : Listed) : Type 0 where
  pub listed : BestListed S q.from q.to q.criterion before after j
  pub chosen : Chosen S T q.from q.to j.dep j.arr listed.rides

-- a refusal is 16, and no journey fits; or 17, and the rides that would be listed, those the tables choose, are more than the list has room
-- for. 18 is not given.
pub data TrulyRefused (S : Service) (T : Tables) (q : Asked) (room : ℕ) (r : Refusal) : Type 0 where
  without_journey : r ≡ refusal reason.NoJourney 0 → Nothing (Journey S q.from q.to) q.criterion → TrulyRefused S T q room r
  short : r ≡ refusal reason.RoomShort 0 → (d a : ℕ) → Best (Journey S q.from q.to) q.criterion d a →
      (l : List ℕ) → Chosen S T q.from q.to d a l → room < length l → TrulyRefused S T q room r

abbrev pub TrulyLists : Service → Tables → Asked → List ℕ → List ℕ → Result Listed Refusal → Type 0
TrulyLists S T q before after (Ok j) = TrulyListed S T q before after j
TrulyLists S T q before after (Err r) = TrulyRefused S T q (length before) r × (after ≡ zeros before)
