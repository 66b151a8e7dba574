-- What the check's refusals name, spelled out. The timetable text is s; the reader left the codes' places and the runs' numbers; T are the tables.
use Rattle.std.specs.Prelude as std
use Rattle.std.specs.Prelude.{ℕ, ◌<◌, ◌≡◌, ◌≢◌, List, [], ◌++◌, Bool, true, false, cond, ltb, None, Some}
use Rattle.std.proofs.Math.Option.{Option, none, some}
use Rattle.kinds.specs.declared.Refusal.{Refusal}
use Rattle.journeys.specs.Tables.{Side, outs, ins, Tables, Entry, LabelAt}
use Rattle.tables.specs.File.{stops_of, labels_of}
use Rattle.tables.specs.Good.{Room, GoodFile}
use Rattle.timetable.specs.Numbers.{run_at, GoodRunAt}
use Rattle.lookup.specs.Lookup.{code_at, Named}
use Rattle.report.specs.Lines.{label_line, entry_line, numbered_run, numbered_stop}
use Rattle.kinds.specs.declared.Reason.TheVariants as reason
use Rattle.kinds.specs.declared.Code.{Code}

-- a label's pivot is where one changes
abbrev pub change_at : List ℕ → Option ℕ → std.Option Code
change_at codes none = None
change_at codes (some w) = Some (code_at codes w)

-- label k, which is a label `from` to `to`
pub record LabelSpelled (T : Tables) (s codes : List ℕ) (k : ℕ) (xs : List ℕ) : Type 0 where
  pub from : ℕ
  pub to : ℕ
  pub dep : ℕ
  pub arr : ℕ
  pub pivot : Option ℕ
  pub label : LabelAt T k from to dep arr pivot
  pub is : xs ≡ label_line s k (code_at codes from) (code_at codes to) dep arr (change_at codes pivot)

abbrev pub run_spelled : List ℕ → List ℕ → List ℕ → ℕ → List ℕ
run_spelled s codes runs i =
    let r = run_at runs i in
    numbered_run s i (code_at codes r.from) (code_at codes r.to) r.dep r.arr r.trip

abbrev pub stop_spelled : List ℕ → List ℕ → ℕ → List ℕ
stop_spelled s codes j = numbered_stop s j (code_at codes j)

-- the two sets of a stop, and a pivot, as they are printed
abbrev pub side_of : Bool → Side
side_of true = outs
side_of false = ins

abbrev pub pivot_said : Option ℕ → std.Option ℕ
pivot_said none = None
pivot_said (some p) = Some p

-- label k by its numbers, with the code of the stop that owns it where the timetable, which has so many stops, has that stop
pub record BadSpelled (T : Tables) (s codes : List ℕ) (stops k : ℕ) (xs : List ℕ) : Type 0 where
  pub out : Bool
  pub owner : ℕ
  pub hub : ℕ
  pub dep : ℕ
  pub arr : ℕ
  pub pivot : Option ℕ
  pub entry : Entry T (side_of out) k owner hub dep arr pivot
  pub is : xs ≡ entry_line k out owner hub dep arr (pivot_said pivot) ++ cond (ltb owner stops) (stop_spelled s codes owner) []

-- 11 and 19 name a label, 20 a run and a stop; any other refusal of the check names nothing that can be spelled out
pub data Spelled (T : Tables) (s codes runs : List ℕ) (stops : ℕ) (r : Refusal) (xs : List ℕ) : Type 0 where
  a_bad : r.reason ≡ reason.LabelBad → BadSpelled T s codes stops r.place xs → Spelled T s codes runs stops r xs
  a_label : r.reason ≡ reason.Unsupported → LabelSpelled T s codes r.place xs → Spelled T s codes runs stops r xs
  a_gap : r.reason ≡ reason.Gap → xs ≡ run_spelled s codes runs r.place ++ stop_spelled s codes r.stop → Spelled T s codes runs stops r xs
  nothing : r.reason ≢ reason.LabelBad → r.reason ≢ reason.Unsupported → r.reason ≢ reason.Gap → xs ≡ [] → Spelled T s codes runs stops r xs

-- label k of a file that has room for just its labels
pub record BadPlace (b : List ℕ) (k : ℕ) : Type 0 where
  pub room : Room b (stops_of b)
  pub label : k < labels_of b

-- each stop has a code
pub record AllNamed (s codes : List ℕ) (n : ℕ) : Type 0 where
  pub stop : (j : ℕ) → j < n → Named s codes j

-- run i, and its stops
pub record RunNamed (s codes runs : List ℕ) (i : ℕ) : Type 0 where
  pub run : GoodRunAt runs i
  pub from : Named s codes (run_at runs i).from
  pub to : Named s codes (run_at runs i).to

-- what the refusal names, in tables of n stops
pub record Spellable (b s codes runs : List ℕ) (n : ℕ) (r : Refusal) : Type 0 where
  pub names : AllNamed s codes n
  pub bad : r.reason ≡ reason.LabelBad → BadPlace b r.place
  pub file : r.reason ≡ reason.Unsupported → GoodFile b n
  pub label : r.reason ≡ reason.Unsupported → r.place < labels_of b
  pub run : r.reason ≡ reason.Gap → RunNamed s codes runs r.place
  pub stop : r.reason ≡ reason.Gap → r.stop < n

-- a number names one label
pub record SameLabel (u v d a : ℕ) (p : Option ℕ) (u' v' d' a' : ℕ) (p' : Option ℕ) : Type 0 where
  pub from : u ≡ u'
  pub to : v ≡ v'
  pub dep : d ≡ d'
  pub arr : a ≡ a'
  pub pivot : p ≡ p'
