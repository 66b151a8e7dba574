-- Demands 2 and 3 as calls: what their contracts say, of any ask, permitted or not, and of lists of any length.
use Rattle.std.specs.Prelude.{ℕ, ◌≤◌, ◌≡◌, List, take, Err, Ok, Result}
use Rattle.journeys.specs.Service.{Service}
use Rattle.journeys.specs.Journey.{Journey}
use Rattle.journeys.specs.Tables.{Tables}
use Rattle.asks.specs.declared.Wanted.{Wanted}
use Rattle.asks.specs.Asks.{ask_read, asked, AnswersBy, Answers}
use Rattle.timetable.specs.declared.Given.{Given}
use Rattle.timetable.specs.Slots.{service_of}
use Rattle.both.specs.Both.{work_room}
use Rattle.verdict.specs.Verdict.{Checked}
use Rattle.loops.specs.Zero.{zeros}
use Rattle.tables.specs.File.{tables_of, AreBytes}
use Rattle.builder.specs.Build.{BuildOf}
use Rattle.rides.specs.Lists.{rides_asked, Lists}
use Rattle.rides.specs.Accepted.{TrulyLists}
use Rattle.builder.specs.declared.Built.{Built}
use Rattle.kinds.specs.declared.Refusal.{Refusal}
use Rattle.asks.specs.declared.Journey as pair
use Rattle.rides.specs.declared.Listed.{Listed}
use Rattle.asks.specs.declared.Asked.{Asked}

-- "every ask gets the timetable's best": the best among all journeys, or 16 exactly when there is none; what is out of order is refused as it must be
abbrev pub TimetableAnswers : Service → Result Asked Refusal → Result pair.Journey Refusal → Type 0
TimetableAnswers S q x = AnswersBy (Journey S) q x

-- tables are checked first; only what the check accepts is asked
abbrev pub AfterCheck : Result Unit Refusal → Service → Result Asked Refusal → Result pair.Journey Refusal → Type 0
AfterCheck (Ok tt) S q x = TimetableAnswers S q x
AfterCheck (Err r) S q x = x ≡ Err r

-- an ask of tables from anyone, checked against the timetable's numbers
pub record CheckedAsk (b : List ℕ) (given : Given) (list : List ℕ) (lent from to : ℕ) (w : Wanted) (x : Result pair.Journey Refusal) : Type 0 where
  pub verdict : Result Unit Refusal
  pub checked : Checked b given list lent verdict
  pub answer : AfterCheck verdict (service_of given list) (ask_read given.stops from to w) x

-- the same with rides: "with rides, lent its rooms, the same and the list is such a journey"; 18 never comes
abbrev pub TimetableLists : Service → Tables → Result Asked Refusal → List ℕ → List ℕ → Result Listed Refusal → Type 0
TimetableLists S T (Err r) before after x = (x ≡ Err r) × (after ≡ zeros before)
TimetableLists S T (Ok q) before after x = TrulyLists S T q before after x

abbrev pub AfterCheckLists : Result Unit Refusal → Service → Tables → Result Asked Refusal → List ℕ → List ℕ → Result Listed Refusal → Type 0
AfterCheckLists (Ok tt) S T q before after x = TimetableLists S T q before after x
AfterCheckLists (Err r) S T q before after x = (x ≡ Err r) × (after ≡ zeros before)

pub record CheckedRides (b : List ℕ) (given : Given) (list : List ℕ) (lent from to : ℕ) (w : Wanted)
    (before after : List ℕ) (x : Result Listed Refusal) : Type 0 where
  pub verdict : Result Unit Refusal
  pub checked : Checked b given list lent verdict
  pub answer : AfterCheckLists verdict (service_of given list) (tables_of b) (ask_read given.stops from to w) before after x

-- A file serves the timetable: the check accepts it, whatever room it is lent; and over it every ask, with and without rides, gets the timetable's best. Which
-- asks are out of order is said by the stop count alone.
pub record Serves (given : Given) (list file : List ℕ) : Type 0 where
  pub accepted : (lent : ℕ) → work_room ≤ lent → (r : Result Unit Refusal) → Checked file given list lent r → r ≡ (Ok tt)
  pub asks : (from to : ℕ) (w : Wanted) (x : Result pair.Journey Refusal) → Answers (tables_of file) (asked file from to w) x →
      TimetableAnswers (service_of given list) (ask_read given.stops from to w) x
  pub rides : (lent from to : ℕ) (w : Wanted) (before after : List ℕ) (x : Result Listed Refusal) → work_room ≤ lent →
      Lists (service_of given list) (tables_of file) (rides_asked file given list lent from to w) before after x →
      TimetableLists (service_of given list) (tables_of file) (ask_read given.stops from to w) before after x

-- Demand 2 as calls: the builder writes the tables, and these are asked. What the builder refuses is refused.
abbrev pub AfterBuild : Result Built Refusal → Service → Result Asked Refusal → Result pair.Journey Refusal → Type 0
AfterBuild (Ok b) S q x = TimetableAnswers S q x
AfterBuild (Err r) S q x = x ≡ Err r

-- "A refusal carries number and place only .. and writable buffers are all zero": what the builder wrote stays only where the ask is answered
abbrev pub left_by : Result pair.Journey Refusal → List ℕ → List ℕ
left_by (Ok j) bytes = bytes
left_by (Err r) bytes = zeros bytes

pub record BuiltAsk (given : Given) (list : List ℕ) (work lent from to : ℕ) (w : Wanted) (tables : List ℕ) (x : Result pair.Journey Refusal) : Type 0 where
  pub answer : Result Built Refusal
  pub bytes : List ℕ
  pub are : AreBytes bytes
  pub built : BuildOf given list work lent answer bytes
  pub asked : AfterBuild answer (service_of given list) (ask_read given.stops from to w) x
  pub left : tables ≡ left_by x bytes

abbrev pub AfterBuildLists : Result Built Refusal → Service → List ℕ → Result Asked Refusal → List ℕ → List ℕ → Result Listed Refusal → Type 0
AfterBuildLists (Ok b) S bytes q before after x = TimetableLists S (tables_of (take b.length bytes)) q before after x
AfterBuildLists (Err r) S bytes q before after x = (x ≡ Err r) × (after ≡ zeros before)

abbrev pub left_by_rides : Result Listed Refusal → List ℕ → List ℕ
left_by_rides (Ok j) bytes = bytes
left_by_rides (Err r) bytes = zeros bytes

pub record BuiltRides (given : Given) (list : List ℕ) (work lent from to : ℕ) (w : Wanted)
    (tables before after : List ℕ) (x : Result Listed Refusal) : Type 0 where
  pub answer : Result Built Refusal
  pub bytes : List ℕ
  pub are : AreBytes bytes
  pub built : BuildOf given list work lent answer bytes
  pub asked : AfterBuildLists answer (service_of given list) bytes (ask_read given.stops from to w) before after x
  pub left : tables ≡ left_by_rides x bytes
