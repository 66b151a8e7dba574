-- The slots noted at the labels that their rides are: behind the starts of the sets, a number for each label.
use Rattle.std.specs.Prelude.{ℕ, ◌+◌, ◌≤◌, ◌<◌, ◌≡◌, ◌≢◌, List, length, get_or}
use Rattle.std.proofs.Math.Option.{Option}
use Rattle.journeys.specs.declared.Ride.{Ride}
use Rattle.journeys.specs.Service.{Service}
use Rattle.journeys.specs.Tables.{Tables, LabelAt}
use Rattle.tables.specs.File.{tables_of}
use Rattle.timetable.specs.declared.Given.{Given}
use Rattle.timetable.specs.Slots.{slots_of, service_of}
use Rattle.label_sets.specs.Starts.{starts_room, Started}
use Rattle.label_sets.specs.declared.Span.{Span}
use Rattle.label_sets.specs.Sets.{SpanRide}
use Rattle.both.specs.Both.{work_room, BothGood}
use Rattle.support.specs.Spans.{SpanAt}

-- "a run with its ends and minutes", among those at the first so many slots
abbrev pub RideAmong : Service → ℕ → Span → Type 0
RideAmong S count s = (i : ℕ) × (i < count) × SpanRide S s i

-- the slot noted at label k
abbrev pub noted : List ℕ → ℕ → ℕ
noted room k = get_or room (starts_room + k) 0

-- if the ride at one of the first slots has these ends and minutes, a slot whose ride has them is noted at label k
abbrev pub Notes : Service → ℕ → List ℕ → ℕ → Span → Type 0
Notes S count room k s = RideAmong S count s → (noted room k < count) × SpanRide S s (noted room k)

-- slot i has been noted at the label that its ride is, and nothing else has changed
pub record MarkedWith (T : Tables) (r : Ride) (i : ℕ) (before after : List ℕ) : Type 0 where
  pub long : length after ≡ length before
  pub here : (k : ℕ) (p : Option ℕ) → LabelAt T k r.from r.to r.dep r.arr p → noted after k ≡ i
  pub other : (q : ℕ) → ((k : ℕ) (p : Option ℕ) → LabelAt T k r.from r.to r.dep r.arr p → starts_room + k ≢ q) →
      get_or after q 0 ≡ get_or before q 0

-- good tables and good numbers of n stops, the starts of the sets, and behind them the first slots noted at the labels that their rides are
pub record MarkedTo (b : List ℕ) (n : ℕ) (given : Given) (runs room : List ℕ) (i : ℕ) : Type 0 where
  pub both : BothGood b n given runs
  pub started : Started b n room
  pub long : work_room ≤ length room
  pub notes : (k : ℕ) (s : Span) → SpanAt (tables_of b) k s → Notes (service_of given runs) i room k s

abbrev pub Marked : List ℕ → ℕ → Given → List ℕ → List ℕ → Type 0
Marked b n given runs room = MarkedTo b n given runs room (slots_of given)
