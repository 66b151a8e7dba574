-- What the check answers.
use Rattle.std.specs.Prelude.{ℕ, ◌≤◌, ◌≡◌, List, Err, Ok, Result}
use Rattle.kinds.specs.Refusals.{refusal}
use Rattle.kinds.specs.declared.Refusal.{Refusal}
use Rattle.journeys.specs.Service.{Service}
use Rattle.journeys.specs.Tables.{Tables}
use Rattle.journeys.specs.Check as the
use Rattle.tables.specs.File.{tables_of}
use Rattle.tables.specs.Good.{GoodFile}
use Rattle.tables.specs.Judged.{judged_tables}
use Rattle.timetable.specs.declared.Given.{Given}
use Rattle.timetable.specs.Numbers.{judged_of, GoodNumbers}
use Rattle.timetable.specs.Slots.{slot_run, service_of}
use Rattle.both.specs.Both.{work_room, judged_both}
use Rattle.kinds.specs.declared.Reason.TheVariants as reason

-- 20 has two places: "run, stop"
abbrev pub gap_refusal : ℕ → ℕ → Refusal
gap_refusal run v = record { reason = reason.Gap; place = run; stop = v }

-- "19, 20": "The tables are accepted exactly when every label is supported and no run has a gap. The first failure ends the search, labels
-- first, then runs by number and, within a run, stops by number."
pub data CheckedAs (S : Service) (T : Tables) (r : Result Unit Refusal) : Type 0 where
  unsupported_at : (k : ℕ) → the.UnsupportedFirst S T k → r ≡ Err (refusal reason.Unsupported k) → CheckedAs S T r
  gap_at : (i v : ℕ) → the.GapFirst S T i v → r ≡ Err (gap_refusal (slot_run i) v) → CheckedAs S T r
  all_well : the.Accepted S T → r ≡ Ok tt → CheckedAs S T r

-- the first gap is at a slot where this run stands, and at stop v
pub record GapAtRun (S : Service) (T : Tables) (run v : ℕ) : Type 0 where
  pub slot : ℕ
  pub stands : slot_run slot ≡ run
  pub first : the.GapFirst S T slot v

abbrev pub Answered : Result ℕ Refusal → Service → Tables → Result Unit Refusal → Type 0
Answered (Err x) S T r = r ≡ Err x
Answered (Ok n) S T r = CheckedAs S T r

-- r is the check's answer to these bytes and numbers, with so much working room lent: "Check: 9, 10, 11, the timetable's, 21, 19, 20."
abbrev pub Checked : List ℕ → Given → List ℕ → ℕ → Result Unit Refusal → Type 0
Checked b given list lent r =
    Answered (judged_both (judged_tables b) (judged_of given list lent work_room) given.stops) (service_of given list) (tables_of b) r

-- what an accepting answer promises: a good file and good numbers for the same stops, the working room, and the tables are accepted
pub record AcceptedTables (b : List ℕ) (given : Given) (list : List ℕ) (lent : ℕ) : Type 0 where
  pub file : GoodFile b given.stops
  pub numbers : GoodNumbers given list
  pub room : work_room ≤ lent
  pub accepted : the.Accepted (service_of given list) (tables_of b)
