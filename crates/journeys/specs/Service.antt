-- The timetable in force. Nothing here knows of bytes, days or five numbers a run.
use Rattle.std.specs.Prelude.{ℕ, ◌≤◌, ◌<◌, ◌≡◌, ◌≢◌, Bool, true}
use Rattle.kinds.specs.Limits.{last_minute}
use Rattle.journeys.specs.declared.Ride.{Ride}

-- Stops are numbered from 0 and "the first is stop 0 and ranks highest". Slots are numbered from 0; at each stands a ride, and a test
-- says whether it is in force. "its runs at their stated minutes, and nothing else, are in force": a run stands at the slot of its number.
pub record Service : Type 0 where
  pub stops : ℕ
  pub slots : ℕ
  pub in_force : ℕ → Bool
  pub ride : ℕ → Ride

-- slot i is in force, and its ride goes u to v, leaving d and arriving a
pub record RideAt (S : Service) (i u v d a : ℕ) : Type 0 where
  pub below : i < S.slots
  pub forced : S.in_force i ≡ true
  pub goes : (S.ride i).from ≡ u
  pub ends : (S.ride i).to ≡ v
  pub leaves : (S.ride i).dep ≡ d
  pub arrives : (S.ride i).arr ≡ a

-- "A run needs FROM and TO different and DEP < ARR", its stops and minutes in range: what the judges of timetables promise
pub record GoodService (S : Service) : Type 0 where
  pub from_stop : (i : ℕ) → i < S.slots → S.in_force i ≡ true → (S.ride i).from < S.stops
  pub to_stop : (i : ℕ) → i < S.slots → S.in_force i ≡ true → (S.ride i).to < S.stops
  pub apart : (i : ℕ) → i < S.slots → S.in_force i ≡ true → (S.ride i).from ≢ (S.ride i).to
  pub later : (i : ℕ) → i < S.slots → S.in_force i ≡ true → (S.ride i).dep < (S.ride i).arr
  pub last : (i : ℕ) → i < S.slots → S.in_force i ≡ true → (S.ride i).arr ≤ last_minute
