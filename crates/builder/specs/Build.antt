-- What the builder answers, and what it leaves in the lent tables.
use Rattle.std.specs.Prelude.{ℕ, ◌*◌, ◌-◌, ◌≤◌, ◌<◌, ◌≡◌, List, ◌++◌, length, replicate, Err, Ok, Result}
use Rattle.kinds.specs.Limits.{most_labels}
use Rattle.kinds.specs.Refusals.{refusal}
use Rattle.kinds.specs.declared.Refusal.{Refusal}
use Rattle.journeys.specs.Service.{Service}
use Rattle.journeys.specs.Rule.{ByRule}
use Rattle.journeys.specs.Count.{RuleCount}
use Rattle.timetable.specs.Numbers.{judged_of}
use Rattle.timetable.specs.Slots.{service_of}
use Rattle.timetable.specs.declared.Given.{Given}
use Rattle.tables.specs.File.{place_of, tables_of}
use Rattle.tables.specs.Judged.{judged_tables}
use Rattle.kinds.specs.declared.Reason.TheVariants as reason
use Rattle.builder.specs.declared.Built.{Built}

-- the working room: three numbers a label
abbrev pub build_room : ℕ
build_room = 3 * most_labels

-- the bytes are good tables, whose labels are exactly those of the rule
pub record RuleFile (S : Service) (file : List ℕ) : Type 0 where
  pub good : judged_tables file ≡ Ok S.stops
  pub rule : ByRule S (tables_of file)

-- a file of so many bytes and so many labels
abbrev pub success : ℕ → ℕ → Result Built Refusal
success length labels = Ok (record { length = length; labels = labels })

-- "those, then 22, then 17 for the tables", of which so many bytes are lent; "A refusal carries number and place only", "and writable buffers
-- are all zero. After success, room beyond what was written is zero". Success tells the file's length and its number of labels.
pub data BuiltOf (S : Service) (lent : ℕ) (answer : Result Built Refusal) (tables : List ℕ) : Type 0 where
  over : (k : ℕ) → RuleCount S k → most_labels < k → answer ≡ Err (refusal reason.LabelsOver 0) → tables ≡ replicate lent 0 → BuiltOf S lent answer tables
  short : (k : ℕ) → RuleCount S k → k ≤ most_labels → lent < place_of S.stops k → answer ≡ Err (refusal reason.RoomShort 0) → tables ≡ replicate lent 0 →
      BuiltOf S lent answer tables
  built : (k : ℕ) (file : List ℕ) → RuleCount S k → k ≤ most_labels → place_of S.stops k ≤ lent → RuleFile S file → length file ≡ place_of S.stops k →
      answer ≡ success (place_of S.stops k) k → tables ≡ file ++ replicate (lent - place_of S.stops k) 0 → BuiltOf S lent answer tables

-- the call: "Builder: those" of the given numbers first
pub data BuildOf (given : Given) (runs : List ℕ) (work lent : ℕ) (answer : Result Built Refusal) (tables : List ℕ) : Type 0 where
  refused : (r : Refusal) → judged_of given runs work build_room ≡ Err r → answer ≡ Err r → tables ≡ replicate lent 0 → BuildOf given runs work lent
      answer tables
  good : judged_of given runs work build_room ≡ (Ok tt) → BuiltOf (service_of given runs) lent answer tables → BuildOf given runs work lent answer tables
