-- What "journey" prints, said of the timetable and its journeys: the tables are not spoken of.
use Rattle.std.specs.Prelude.{ℕ, ◌<◌, ◌≡◌, List, ◌++◌, ◌⊎◌, length, take, Err, Ok, Result}
use Rattle.kinds.specs.Limits.{runs_room, codes_room, most_labels}
use Rattle.kinds.specs.Refusals.{number_of, refusal}
use Rattle.kinds.specs.declared.Refusal.{Refusal}
use Rattle.journeys.specs.Journey.{Journey, RidesOf}
use Rattle.journeys.specs.Criteria.{Best, Nothing}
use Rattle.journeys.specs.Count.{RuleCount}
use Rattle.timetable.specs.declared.Given.{Given}
use Rattle.timetable.specs.Numbers.{given_of}
use Rattle.timetable.specs.Slots.{listed, service_of}
use Rattle.reader.specs.declared.Counts.{Counts}
use Rattle.reader.specs.Text.{answer_of, runs_of, codes_of}
use Rattle.asks.specs.Asks.{TwoStops}
use Rattle.asks.specs.Permitted.{criterion_of, InRange, OutOfRange, Crossed, Permitted}
use Rattle.askline.specs.declared.Ask.{Ask}
use Rattle.askline.specs.AskLine.{ask_line}
use Rattle.askline.specs.Input.{timetable_end}
use Rattle.printed.specs.Printed.{at_line, no_line}
use Rattle.answers.specs.Answers.{ride_lines}
use Rattle.journey_lines.specs.Output.{read_input, LinesPrint, refused_line}
use Rattle.kinds.specs.declared.Reason.TheVariants as reason
use Rattle.kinds.specs.declared.Reason.{Reason}

-- What an ask line prints. The timetable text is s; the reader left the codes' places, the stop count, the run count and the runs' numbers.
pub data LineTells (s codes : List ℕ) (given : Given) (runs : List ℕ) (x : Result Ask Reason) (xs : List ℕ) : Type 0 where
  -- "An ill-shaped ask .. is "no 2"; after that an unknown code is "no 5"."
  ill_shaped : x ≡ Err reason.LineShape → xs ≡ no_line (number_of reason.LineShape) → LineTells s codes given runs x xs
  unknown : x ≡ Err reason.StopUnknown → xs ≡ no_line (number_of reason.StopUnknown) → LineTells s codes given runs x xs
  -- 13 "same stop twice", 14 "ask minute over 2,879", 15 "t > t2"
  equal_stops : (q : Ask) → x ≡ Ok q → q.from < given.stops → q.from ≡ q.to → xs ≡ no_line (number_of reason.SameStop) → LineTells s codes given runs x xs
  beyond_range : (q : Ask) → x ≡ Ok q → TwoStops given.stops q.from q.to → OutOfRange q.wanted → xs ≡ no_line (number_of reason.MinuteHigh) →
      LineTells s codes given runs x xs
  crossed : (q : Ask) → x ≡ Ok q → TwoStops given.stops q.from q.to → InRange q.wanted → Crossed q.wanted → xs ≡ no_line (number_of reason.MinutesCrossed) →
      LineTells s codes given runs x xs
  -- ""no journey" exactly when there is none"
  nothing : (q : Ask) → x ≡ Ok q → Permitted given.stops q.from q.to q.wanted →
      Nothing (Journey (service_of given runs) q.from q.to) (criterion_of q.wanted) → xs ≡ no_line (number_of reason.NoJourney) →
      LineTells s codes given runs x xs
  -- "the best among all journeys", "and the listed rides are such a journey"; ""at" gives departure, arrival, number of rides; "ride" gives codes, minutes,
  -- trip"
  best : (q : Ask) → x ≡ Ok q → Permitted given.stops q.from q.to q.wanted →
      (d a : ℕ) → Best (Journey (service_of given runs) q.from q.to) (criterion_of q.wanted) d a →
      (l : List ℕ) → RidesOf (service_of given runs) q.from q.to d a l → xs ≡ at_line d a (length l) ++ ride_lines s codes runs (listed l) (length l) →
      LineTells s codes given runs x xs

-- the numbers that are printed for an ask: 2, 5, 13, 14, 15, 16
abbrev pub AskNumber : ℕ → Type 0
AskNumber n = (n ≡ number_of reason.LineShape) ⊎ ((n ≡ number_of reason.StopUnknown) ⊎ ((n ≡ number_of reason.SameStop) ⊎ ((n ≡ number_of reason.MinuteHigh) ⊎
    ((n ≡ number_of reason.MinutesCrossed) ⊎ (n ≡ number_of reason.NoJourney)))))

-- the lines of t from a on, each as it tells, one after the other
abbrev pub LinesTell : List ℕ → List ℕ → Given → List ℕ → List ℕ → ℕ → List ℕ → Type 0
LinesTell s codes given runs t a xs = LinesPrint (λ i e ys. LineTells s codes given runs (ask_line s codes given.stops t i e) ys) t a xs

-- What is printed for the input t. "A refused timetable prints "no", number and place, and nothing more. A refused build prints the same way": by the rule
-- there
-- are more labels than the limit. Else the lines behind the timetable's first "end" line tell, by its service.
pub data OutputTells (t xs : List ℕ) : Type 0 where
  unread : (r : Refusal) → answer_of (read_input t runs_room codes_room) ≡ Err r → xs ≡ refused_line r → OutputTells t xs
  too_many : (k : Counts) (labels : ℕ) → answer_of (read_input t runs_room codes_room) ≡ Ok k →
      RuleCount (service_of (given_of k.stops k.runs) (runs_of (read_input t runs_room codes_room) runs_room)) labels → most_labels < labels →
      xs ≡ refused_line (refusal reason.LabelsOver 0) →
      OutputTells t xs
  asks : (k : Counts) → answer_of (read_input t runs_room codes_room) ≡ Ok k →
      LinesTell (take (timetable_end t) t) (codes_of (read_input t runs_room codes_room) codes_room) (given_of k.stops k.runs)
      (runs_of (read_input t runs_room codes_room) runs_room) t (timetable_end t) xs →
      OutputTells t xs
