-- Where the places of a refusal of the check stand: what is refused before tables and timetable are compared is neither 19 nor 20.
use Rattle.std.specs.Prelude.{ℕ, ◌<◌, ◌≡◌, List, Err, Ok, Result}
use Rattle.kinds.specs.declared.Refusal.{Refusal}
use Rattle.tables.specs.File.{labels_of}
use Rattle.tables.specs.Good.{GoodFile}
use Rattle.timetable.specs.declared.Given.{Given}
use Rattle.desk.specs.Spelled.{BadPlace}
use Rattle.kinds.specs.declared.Reason.{Reason}
use Rattle.kinds.specs.declared.Reason.TheVariants as reason

-- neither 19 nor 20
pub record Neither (n : Reason) : Type 0 where
  pub no_label : n ≡ reason.Unsupported → ⊥
  pub no_gap : n ≡ reason.Gap → ⊥

-- what the timetable's numbers are refused by is not 11 either
pub record Other (n : Reason) : Type 0 where
  pub neither : Neither n
  pub no_bad : n ≡ reason.LabelBad → ⊥

abbrev pub NeitherIn : Result ℕ Refusal → Type 0
NeitherIn (Ok n) = Unit
NeitherIn (Err x) = Neither x.reason

abbrev pub NeitherOf : Result Unit Refusal → Type 0
NeitherOf (Ok tt) = Unit
NeitherOf (Err x) = Other x.reason

-- the refusal's places are a label of the tables, which are good but for 11; or a run and a stop
pub record Places (b : List ℕ) (given : Given) (r : Refusal) : Type 0 where
  pub bad : r.reason ≡ reason.LabelBad → BadPlace b r.place
  pub file : r.reason ≡ reason.Unsupported → GoodFile b given.stops
  pub label : r.reason ≡ reason.Unsupported → r.place < labels_of b
  pub run : r.reason ≡ reason.Gap → r.place < given.runs
  pub stop : r.reason ≡ reason.Gap → r.stop < given.stops
