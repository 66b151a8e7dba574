-- Rides opened into a lent list.
use Rattle.std.specs.Prelude.{ℕ, ◌-◌, ◌≤◌, ◌≡◌, List, length, None, Option, Some}
use borrow.Rule.Slice.PartMut.{mid_of}
use Rattle.loops.specs.Written.{written}
use Rattle.loops.specs.Zero.{zeros}
use Rattle.journeys.specs.Service.{Service}
use Rattle.journeys.specs.Tables.{Tables}
use Rattle.journeys.specs.Rides.{Opens}
use Rattle.tables.specs.File.{pivot_of}
use Rattle.timetable.specs.declared.Given.{Given}
use Rattle.timetable.specs.Slots.{listed}
use Rattle.departures.specs.Departures.{ByDeparture}
use Rattle.label_sets.specs.Starts.{starts_room, Started}
use Rattle.label_sets.specs.declared.Span.{Span}
use Rattle.label_sets.specs.declared.Meeting.{Meeting}

-- the part of the room behind the starts
abbrev pub behind_starts : List ℕ → List ℕ
behind_starts room = mid_of starts_room (length room - starts_room) room

-- a good file of n stops with the starts of its sets from the front of the room on, and good numbers with their rides by departure in the part behind them
pub record Ground (b : List ℕ) (n : ℕ) (room : List ℕ) (given : Given) (runs : List ℕ) : Type 0 where
  pub long : starts_room ≤ length room
  pub started : Started b n room
  pub by_departure : ByDeparture given runs (behind_starts room)

-- the two labels that meet at the pivot, as spans
abbrev pub first_half : Span → Meeting → Span
first_half s h = record { from = s.from; to = s.pivot; dep = s.dep; arr = h.mid; pivot = h.first }

abbrev pub second_half : Span → Meeting → Span
second_half s h = record { from = s.pivot; to = s.to; dep = h.start; arr = s.arr; pivot = h.second }

-- l is "Rides of a label"
abbrev pub SpanOpens : Service → Tables → Span → List ℕ → Type 0
SpanOpens S T s l = Opens S T s.from s.to s.dep s.arr (pivot_of s.pivot) l

-- P says which list the rides are, slot by slot. There are k of them, and "A ride is listed as its run number": as many as there is room for
-- stand at the front of the lent list.
pub record Listed (P : List ℕ → Type 0) (before after : List ℕ) (k : ℕ) : Type 0 where
  pub rides : List ℕ
  pub are : P rides
  pub count : k ≡ length rides
  pub holds : after ≡ written (listed rides) before

-- "If a run or a label is missing, or the two labels don't meet": no list is the rides
abbrev pub OpenedAs : (List ℕ → Type 0) → List ℕ → List ℕ → Option ℕ → Type 0
OpenedAs P before after (Some k) = Listed P before after k
OpenedAs P before after None = (l : List ℕ) → ¬ (P l)

-- the same, and where there are none the lent list is all zero
abbrev pub OpenedInto : (List ℕ → Type 0) → List ℕ → List ℕ → Option ℕ → Type 0
OpenedInto P before after (Some k) = Listed P before after k
OpenedInto P before after None = ((l : List ℕ) → ¬ (P l)) × (after ≡ zeros before)
