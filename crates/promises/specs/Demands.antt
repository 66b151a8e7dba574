-- Demands 2 and 3 in their own words: what every permitted ask gets, what the builder gives, and what a refusal of the check names. Said of the
-- timetable's journeys; what a call answered is said by its contract (`Answers`, `Lists`, `BuildOf`).
use Rattle.std.specs.Prelude.{ℕ, ◌-◌, ◌≤◌, ◌<◌, ◌≡◌, List, ◌++◌, length, replicate, Err, Ok, Result}
use Rattle.kinds.specs.Limits.{last_minute, most_labels}
use Rattle.kinds.specs.Refusals.{refusal}
use Rattle.kinds.specs.declared.Refusal.{Refusal}
use Rattle.journeys.specs.Service.{Service}
use Rattle.journeys.specs.Journey.{Journey}
use Rattle.journeys.specs.Tables.{Tables}
use Rattle.journeys.specs.Count.{RuleCount}
use Rattle.journeys.specs.Check.{Unsupported, Missed}
use Rattle.timetable.specs.declared.Given.{Given}
use Rattle.timetable.specs.Slots.{slot_run, service_of}
use Rattle.tables.specs.File.{tables_of}
use Rattle.asks.specs.declared.Wanted.{Wanted}
use Rattle.asks.specs.Asks.{asked, Gets, Answers}
use Rattle.asks.specs.Permitted.{Permitted, criterion_of}
use Rattle.both.specs.Both.{work_room}
use Rattle.rides.specs.Lists.{rides_asked, Lists}
use Rattle.rides.specs.Accepted.{GetsRides}
use Rattle.builder.specs.Build.{RuleFile, success}
use Rattle.verdict.specs.Verdict.{gap_refusal}
use Rattle.kinds.specs.declared.Reason.TheVariants as reason
use Rattle.builder.specs.declared.Built.{Built}
use Rattle.asks.specs.declared.Journey as pair
use Rattle.rides.specs.declared.Listed.{Listed}

-- "every ask between two different stops, at permitted times", over this file: without rides "the best among all journeys, "no journey" exactly when there is
-- none"; with rides, lent the working room and a list of 2,879, the same, "and the listed rides are such a journey"
pub record BestAsked (given : Given) (runs file : List ℕ) : Type 0 where
  pub asks : (from to : ℕ) (w : Wanted) → Permitted given.stops from to w → (x : Result pair.Journey Refusal) →
      Answers (tables_of file) (asked file from to w) x →
      Gets (Journey (service_of given runs) from to) (criterion_of w) x
  pub rides : (from to : ℕ) (w : Wanted) → Permitted given.stops from to w → (lent : ℕ) → work_room ≤ lent → (before after : List ℕ) →
      last_minute ≤ length before → (x : Result Listed Refusal) →
      Lists (service_of given runs) (tables_of file) (rides_asked file given runs lent from to w) before after x →
      GetsRides (service_of given runs) from to (criterion_of w) before after x

-- Demand 2. "Our builder writes exactly the tables of the label rule", tells their length and their number of labels, and every ask over them gets the best;
-- or the
-- rule has more labels than the limit
pub data Builds (given : Given) (runs : List ℕ) (lent : ℕ) (answer : Result Built Refusal) (tables : List ℕ) : Type 0 where
  the_rule : (file : List ℕ) (labels : ℕ) → RuleFile (service_of given runs) file → RuleCount (service_of given runs) labels → BestAsked given runs file →
      answer ≡ success (length file) labels → tables ≡ file ++ replicate (lent - length file) 0 → Builds given runs lent answer tables
  too_many : (labels : ℕ) → RuleCount (service_of given runs) labels → most_labels < labels → answer ≡ Err (refusal reason.LabelsOver 0) →
      tables ≡ replicate lent 0 →
      Builds given runs lent answer tables

-- Demand 3, last sentence: "refusals 19 and 20 name a real fault"
pub data RealFault (S : Service) (T : Tables) (r : Refusal) : Type 0 where
  no_support : (k : ℕ) → Unsupported S T k → r ≡ refusal reason.Unsupported k → RealFault S T r
  missed : (i v : ℕ) → Missed S T i v → r ≡ gap_refusal (slot_run i) v → RealFault S T r
