-- What people are told of a check and of a build. The timetable text is s, and b are the bytes of the tables.
use Rattle.std.specs.Prelude.{ℕ, ◌*◌, ◌≤◌, ◌≡◌, List, ◌++◌, replicate, Err, Ok, Result}
use Rattle.kinds.specs.Limits.{runs_room, codes_room}
use Rattle.kinds.specs.Refusals.{refusal}
use Rattle.kinds.specs.declared.Reason.{Reason}
use Rattle.kinds.specs.declared.Refusal.{Refusal}
use Rattle.timetable.specs.Numbers.{given_of}
use Rattle.reader.specs.Text.{Sofar, whole, bad, read_text}
use Rattle.reader.specs.declared.Counts.{Counts}
use Rattle.tables.specs.File.{tables_of}
use Rattle.tables.specs.Judged.{judged_tables}
use Rattle.verdict.specs.Verdict.{Checked}
use Rattle.builder.specs.Build.{build_room, BuildOf, success}
use Rattle.printed.specs.Wrote.{Wrote}
use Rattle.report.specs.Words.{refusal_line}
use Rattle.report.specs.Lines.{accepted_line, written_line, report_room}
use Rattle.desk.specs.Spelled.{Spelled}
use Rattle.desk.specs.declared.Made.{Made}

-- room for all that is told: a refusal, a run and a stop
abbrev pub told_room : ℕ
told_room = 3 * report_room

-- "Check: 9, 10, 11, the timetable's": where the text is refused, a refusal of the tables goes before
abbrev pub before : Result ℕ Refusal → Refusal → Refusal
before (Err x) r = x
before (Ok n) r = r

-- Why the check refuses: the text was read into rooms of these lengths, and so much working room is lent.
pub data Refused (s b : List ℕ) (roomR roomC lent : ℕ) (xs : List ℕ) : Type 0 where
  by_text : (why : Reason) (place : ℕ) → read_text s roomR roomC ≡ bad why place → xs ≡ refusal_line (before (judged_tables b) (refusal why place)) →
      Refused s b roomR roomC lent xs
  by_check : (w : Sofar) (r : Refusal) (ys : List ℕ) → read_text s roomR roomC ≡ whole w →
      Checked b (given_of w.stops w.runs) w.numbers lent (Err r) →
      Spelled (tables_of b) s w.codes w.numbers w.stops r ys → xs ≡ refusal_line r ++ ys → Refused s b roomR roomC lent xs

-- the tables are accepted against the text, which has so many stops and runs
pub record Accepts (s b : List ℕ) (roomR roomC lent : ℕ) (k : Counts) : Type 0 where
  pub read : Sofar
  pub whole : read_text s roomR roomC ≡ whole read
  pub stops : k.stops ≡ read.stops
  pub runs : k.runs ≡ read.runs
  pub accepted : Checked b (given_of read.stops read.runs) read.numbers lent (Ok tt)

-- The answer, and the buffer that held `l` and holds `m`: accepted tables are told nothing of; a refusal is told of from the buffer's start on.
pub data AdmitOf (s b : List ℕ) (roomR roomC lent : ℕ) (l m : List ℕ) (a : Result Counts ℕ) : Type 0 where
  admits : (k : Counts) → Accepts s b roomR roomC lent k → a ≡ Ok k → m ≡ l → AdmitOf s b roomR roomC lent l m a
  refuses : (xs : List ℕ) (n : ℕ) → Refused s b roomR roomC lent xs → a ≡ Err n → Wrote l 0 xs m n → AdmitOf s b roomR roomC lent l m a

-- no answer tells more than there is room for
abbrev pub AdmitShort : Result Counts ℕ → Type 0
AdmitShort (Ok k) = Unit
AdmitShort (Err n) = n ≤ told_room

-- all that is told of a check: "accepted", or why not
pub data CheckTold (s b : List ℕ) (roomR roomC lent : ℕ) (xs : List ℕ) : Type 0 where
  accepted : (k : Counts) → Accepts s b roomR roomC lent k → xs ≡ accepted_line → CheckTold s b roomR roomC lent xs
  refused : Refused s b roomR roomC lent xs → CheckTold s b roomR roomC lent xs

-- so many bytes of tables, and so many that tell of them
abbrev pub made : ℕ → ℕ → Result Made ℕ
made long n = Ok (record { tables = long; told = n })

-- What is told of a build, with so many bytes lent for the tables: the answer, the tables that it leaves, and the buffer that held `l` and holds `m`.
pub data BuildTold (s : List ℕ) (lent : ℕ) (tables l m : List ℕ) (a : Result Made ℕ) : Type 0 where
  bad_text : (why : Reason) (place n : ℕ) → read_text s runs_room codes_room ≡ bad why place → tables ≡ replicate lent 0 →
      a ≡ Err n → Wrote l 0 (refusal_line (refusal why place)) m n → BuildTold s lent tables l m a
  bad_build : (w : Sofar) (r : Refusal) (n : ℕ) → read_text s runs_room codes_room ≡ whole w →
      BuildOf (given_of w.stops w.runs) w.numbers build_room lent (Err r) tables →
      a ≡ Err n → Wrote l 0 (refusal_line r) m n → BuildTold s lent tables l m a
  built : (w : Sofar) (long labels n : ℕ) → read_text s runs_room codes_room ≡ whole w →
      BuildOf (given_of w.stops w.runs) w.numbers build_room lent (success long labels) tables →
      a ≡ made long n → Wrote l 0 (written_line w.stops w.runs labels long) m n → BuildTold s lent tables l m a

-- the tables fit into what is lent, and what is told into its room
abbrev pub MadeShort : ℕ → Result Made ℕ → Type 0
MadeShort lent (Ok m) = (m.tables ≤ lent) × (m.told ≤ told_room)
MadeShort lent (Err n) = n ≤ told_room

-- a text that was read whole, with so many stops and runs; the rooms hold these numbers and codes
pub record ReadWhole (s : List ℕ) (roomR roomC : ℕ) (k : Counts) (numbers codes : List ℕ) : Type 0 where
  pub read : Sofar
  pub whole : read_text s roomR roomC ≡ whole read
  pub counts : k ≡ record { stops = read.stops; runs = read.runs }
  pub numbers_are : numbers ≡ read.numbers
  pub codes_are : codes ≡ read.codes

-- so many stops and so many runs
abbrev pub counts : ℕ → ℕ → Counts
counts stops runs = record { stops = stops; runs = runs }
