-- The three asks with rides: what is refused, what is answered, and what the lent list then holds.
use Rattle.std.specs.Prelude.{ℕ, ◌-◌, ◌≤◌, ◌<◌, ◌≡◌, List, ◌++◌, length, replicate, Err, Ok, Result}
use Rattle.loops.specs.Zero.{zeros}
use Rattle.kinds.specs.Refusals.{refusal}
use Rattle.kinds.specs.declared.Refusal.{Refusal}
use Rattle.journeys.specs.Service.{Service}
use Rattle.journeys.specs.Criteria.{Best, Nothing}
use Rattle.journeys.specs.Tables.{Tables, Sketch}
use Rattle.journeys.specs.Rides.{Chosen}
use Rattle.tables.specs.Judged.{judged_tables}
use Rattle.timetable.specs.declared.Given.{Given}
use Rattle.timetable.specs.Numbers.{judged_of}
use Rattle.timetable.specs.Slots.{listed}
use Rattle.asks.specs.declared.Wanted.{Wanted}
use Rattle.asks.specs.declared.Asked.{Asked}
use Rattle.asks.specs.Asks.{if_tables, ask_read}
use Rattle.both.specs.Both.{work_room, judged_both}
use Rattle.rides.specs.declared.Listed.{Listed}
use Rattle.kinds.specs.declared.Reason.TheVariants as reason

-- "With rides: after 11 those of the timetable numbers and 21", then the ask's; the working room's 17 "stands with the timetable's 17"
unfoldable pub rides_asked : List ℕ → Given → List ℕ → ℕ → ℕ → ℕ → Wanted → Result Asked Refusal
rides_asked b given runs lent from to w =
    if_tables (judged_both (judged_tables b) (judged_of given runs lent work_room) given.stops) (λ n. ask_read n from to w)

-- "The answer over the tables is the best sketch"; its rides, slot by slot, are listed, each "as its run number"; "it is the number of rides
-- listed", and "After success, room beyond what was written is zero"
pub record ListedAs (S : Service) (T : Tables) (q : Asked) (before after : List ℕ) (j : Listed) : Type 0 where
  pub best : Best (Sketch T q.from q.to) q.criterion j.dep j.arr
  pub rides : List ℕ
  pub chosen : Chosen S T q.from q.to j.dep j.arr rides
  pub count : j.rides ≡ length rides
  pub fits : length rides ≤ length before
  pub holds : after ≡ listed rides ++ replicate (length before - length rides) 0

-- "after 16 then 18, then 17": no journey; the best pair has no rides; its rides are more than the list has room for
pub data RefusedAs (S : Service) (T : Tables) (q : Asked) (room : ℕ) (r : Refusal) : Type 0 where
  without_journey : r ≡ refusal reason.NoJourney 0 → Nothing (Sketch T q.from q.to) q.criterion → RefusedAs S T q room r
  missing : r ≡ refusal reason.RidesMissing 0 → (d a : ℕ) → Best (Sketch T q.from q.to) q.criterion d a →
      ((l : List ℕ) → ¬ (Chosen S T q.from q.to d a l)) → RefusedAs S T q room r
  short : r ≡ refusal reason.RoomShort 0 → (d a : ℕ) → Best (Sketch T q.from q.to) q.criterion d a →
      (l : List ℕ) → Chosen S T q.from q.to d a l → room < length l → RefusedAs S T q room r

-- "A refusal carries number and place only .. and writable buffers are all zero."
abbrev pub Lists : Service → Tables → Result Asked Refusal → List ℕ → List ℕ → Result Listed Refusal → Type 0
Lists S T (Err r) before after x = (x ≡ Err r) × (after ≡ zeros before)
Lists S T (Ok q) before after (Ok j) = ListedAs S T q before after j
Lists S T (Ok q) before after (Err r) = RefusedAs S T q (length before) r × (after ≡ zeros before)
