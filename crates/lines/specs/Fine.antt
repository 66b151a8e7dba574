-- What is known of a line that was read.
use Rattle.std.specs.Prelude.{ℕ, ◌+◌, ◌≤◌, ◌<◌, ◌≡◌, List, true, Result, Ok, Err}
use Rattle.kinds.specs.Limits.{most_stops, most_runs}
use Rattle.kinds.specs.Kinds.{GoodRun}
use Rattle.kinds.specs.declared.Code.{Code}
use Rattle.kinds.specs.declared.Run.{Run}
use Rattle.words.specs.Words.{is_code}
use Rattle.lookup.specs.Lookup.{stop_named}
use Rattle.kinds.specs.declared.Reason.{Reason}
use Rattle.lines.specs.declared.Line.{Line}
use Rattle.lines.specs.declared.Line.TheVariants as line

-- a stop line's code ends where the line does, is a code, and is no other stop's
pub record FineStop (s codes : List ℕ) (stops e : ℕ) (c : Code) : Type 0 where
  pub few : stops < most_stops
  pub ends : c.start + c.length ≡ e
  pub is_code_bytes : is_code s c.start c.length ≡ true
  pub new : stops ≤ stop_named s codes stops s c.start c.length

-- a run line's run is good, and there is room for it
pub record FineRun (stops runs : ℕ) (r : Run) : Type 0 where
  pub few : runs < most_runs
  pub good : GoodRun stops r.from r.to r.dep r.arr r.trip

abbrev pub FineLine : List ℕ → List ℕ → ℕ → ℕ → ℕ → Result Line Reason → Type 0
FineLine s codes stops runs e (Ok (line.Stop c)) = (runs ≡ 0) × FineStop s codes stops e c
FineLine s codes stops runs e (Ok (line.Run r)) = FineRun stops runs r
FineLine s codes stops runs e (Ok line.End) = 0 < stops
FineLine s codes stops runs e (Err n) = Unit
