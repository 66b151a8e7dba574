-- Given numbers: "a stop count, a run count and a list of five numbers a run". What they say of each run, and how they are judged.
use Rattle.std.specs.Prelude.{ℕ, ◌+◌, ◌*◌, ◌≤◌, ◌<◌, ◌≡◌, ◌⊎◌, List, length, get_or, leb, Err, Ok, Result}
use Rattle.std.proofs.Math.Option.{Option, none, some}
use Rattle.loops.specs.Unless.{unless}
use Rattle.loops.specs.FirstOf.{first_of}
use Rattle.kinds.specs.Limits.{most_stops, most_runs, run_numbers}
use Rattle.kinds.specs.Refusals.{number_of, refusal}
use Rattle.kinds.specs.Kinds.{is_stop_count, is_run_count, run_of, GoodRun}
use Rattle.kinds.specs.declared.Refusal.{Refusal}
use Rattle.kinds.specs.declared.Run.{Run}
use Rattle.timetable.specs.declared.Given.{Given}
use Rattle.kinds.specs.declared.Reason.TheVariants as reason
use Rattle.kinds.specs.declared.Reason.{Reason}

-- so many stops and so many runs
abbrev pub given_of : ℕ → ℕ → Given
given_of stops runs = record { stops = stops; runs = runs }

-- run i of the list: "run FROM TO DEP ARR TRIP", "numbered from 0"
abbrev pub run_at : List ℕ → ℕ → Run
run_at list i =
    record {
      from = get_or list (run_numbers * i) 0;
      to = get_or list (run_numbers * i + 1) 0;
      dep = get_or list (run_numbers * i + 2) 0;
      arr = get_or list (run_numbers * i + 3) 0;
      trip = get_or list (run_numbers * i + 4) 0;
    }

-- run i among so many stops, or the reason of its refusal. Its values are judged as they are.
unfoldable pub read_run : ℕ → List ℕ → ℕ → Result Run Reason
read_run stops list i = let r = run_at list i in run_of stops r.from r.to r.dep r.arr r.trip

-- "by run 5, 6, 7, the run number as place"
abbrev pub refused_by : Result Run Reason → ℕ → Option Refusal
refused_by (Ok r) i = none
refused_by (Err why) i = some (refusal why i)

abbrev pub refused_run : ℕ → List ℕ → ℕ → Option Refusal
refused_run stops list i = refused_by (read_run stops list i) i

-- no refusal is good
abbrev pub judged_runs : Option Refusal → Result Unit Refusal
judged_runs none = Ok tt
judged_runs (some r) = Err r

-- "8, then 17, then by run": "Refusal 8 is for a stop count of 0 or over 255 or a run count over 4,096; 17 for a list shorter than the runs
-- need. Numbers beyond are not read." For working room 17 "stands with the timetable's 17": so much is lent, so much is needed.
unfoldable pub judged_of : Given → List ℕ → ℕ → ℕ → Result Unit Refusal
judged_of given list lent needed =
    unless (is_stop_count given.stops) (Err (refusal reason.OverLimit 0))
    (unless (is_run_count given.runs) (Err (refusal reason.OverLimit 0))
    (unless (leb (run_numbers * given.runs) (length list)) (Err (refusal reason.RoomShort 0))
    (unless (leb needed lent) (Err (refusal reason.RoomShort 0))
    (judged_runs (first_of (refused_run given.stops list) given.runs)))))

-- What the judge promises of good numbers: a good run stands at each number below the count, and the list has it.
abbrev pub RunGood : ℕ → Run → Type 0
RunGood stops r = GoodRun stops r.from r.to r.dep r.arr r.trip

pub record GoodNumbers (given : Given) (list : List ℕ) : Type 0 where
  pub some : 1 ≤ given.stops
  pub few : given.stops ≤ most_stops
  pub few_runs : given.runs ≤ most_runs
  pub long : run_numbers * given.runs ≤ length list
  pub runs : (i : ℕ) → i < given.runs → RunGood given.stops (run_at list i)

-- run i of the list is good, among some number of stops
pub record GoodRunAt (list : List ℕ) (i : ℕ) : Type 0 where
  pub stops : ℕ
  pub few : stops ≤ most_stops
  pub long : run_numbers * i + run_numbers ≤ length list
  pub good : RunGood stops (run_at list i)

-- the numbers are good, or refused: by 8 or by run 5, 6, 7, or by 17
abbrev pub NumbersRefusal : Result Unit Refusal → Type 0
NumbersRefusal (Ok _) = Unit
NumbersRefusal (Err r) = (number_of r.reason ≤ number_of reason.OverLimit) ⊎ (r.reason ≡ reason.RoomShort)
