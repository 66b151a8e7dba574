-- What an ask line gets, and what is printed for it. The timetable text is s; the reader left the codes' places, the stop count, the run count and
-- the runs' numbers; b are the bytes of the tables.
use Rattle.std.specs.Prelude.{ℕ, zero, suc, ◌<◌, ◌≡◌, List, [], ◌++◌, length, get_or, Err, Ok, Result}
use Rattle.loops.specs.Zero.{zeros}
use Rattle.kinds.specs.Refusals.{number_of, refusal}
use Rattle.kinds.specs.declared.Run.{Run}
use Rattle.tables.specs.File.{tables_of}
use Rattle.timetable.specs.declared.Given.{Given}
use Rattle.timetable.specs.Numbers.{run_at, GoodRunAt}
use Rattle.timetable.specs.Slots.{service_of}
use Rattle.lookup.specs.Lookup.{code_at, Named}
use Rattle.rides.specs.Lists.{rides_asked, Lists}
use Rattle.printed.specs.Printed.{at_line, ride_line, no_line}
use Rattle.rides.specs.declared.Listed.{Listed}
use Rattle.kinds.specs.declared.Refusal.{Refusal}
use Rattle.askline.specs.declared.Ask.{Ask}
use Rattle.kinds.specs.declared.Reason.{Reason}

-- "An ill-shaped ask .. is "no 2"; after that an unknown code is "no 5"." Any other line gets what the ask with rides gets, of which the list
-- that held `before` then holds `after`; a refusal leaves zeros.
abbrev pub LineGets : List ℕ → Given → List ℕ → ℕ → Result Ask Reason → List ℕ → List ℕ → Result Listed Refusal → Type 0
LineGets b given runs lent (Err n) before after x = (x ≡ Err (refusal n 0)) × (after ≡ zeros before)
LineGets b given runs lent (Ok q) before after x =
    Lists (service_of given runs) (tables_of b) (rides_asked b given runs lent q.from q.to q.wanted) before after x

-- the first line: ""at" gives departure, arrival, number of rides", ""no" gives the number"
abbrev pub head_of : Result Listed Refusal → List ℕ
head_of (Ok j) = at_line j.dep j.arr j.rides
head_of (Err r) = no_line (number_of r.reason)

-- so many ride lines follow
abbrev pub rides_in : Result Listed Refusal → ℕ
rides_in (Ok j) = j.rides
rides_in (Err r) = 0

-- the line of a run: ""ride" gives codes, minutes, trip"
abbrev pub ride_line_of : List ℕ → List ℕ → Run → List ℕ
ride_line_of s codes r = ride_line s (code_at codes r.from) (code_at codes r.to) r.dep r.arr r.trip

-- "A ride is listed as its run number": the lines of the first k listed rides, in their order
unfoldable pub ride_lines : List ℕ → List ℕ → List ℕ → List ℕ → ℕ → List ℕ
ride_lines s codes runs list zero = []
ride_lines s codes runs list (suc k) = ride_lines s codes runs list k ++ ride_line_of s codes (run_at runs (get_or list k 0))

-- all that is printed for an answer
unfoldable pub printed_for : List ℕ → List ℕ → List ℕ → List ℕ → Result Listed Refusal → List ℕ
printed_for s codes runs list x = head_of x ++ ride_lines s codes runs list (rides_in x)

-- xs is what the line prints; the list of rides and the working room are as long as lent
pub record PrintedAsk (s codes : List ℕ) (b : List ℕ) (given : Given) (runs : List ℕ) (lent : ℕ) (read : Result Ask Reason) (before xs : List ℕ) : Type 0 where
  pub answer : Result Listed Refusal
  pub list : List ℕ
  pub gets : LineGets b given runs lent read before list answer
  pub is : xs ≡ printed_for s codes runs list answer

-- ride k of the list is a good run, and its stops have codes
pub record Ridden (s codes runs list : List ℕ) (k : ℕ) : Type 0 where
  pub within : k < length list
  pub run : GoodRunAt runs (get_or list k 0)
  pub from : Named s codes (run_at runs (get_or list k 0)).from
  pub to : Named s codes (run_at runs (get_or list k 0)).to
