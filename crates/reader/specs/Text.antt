-- What a timetable text means: line by line, with what was read so far; "The first bad line decides."
use Rattle.std.specs.Prelude.{ℕ, zero, suc, ◌+◌, ◌*◌, ◌≤◌, ◌<◌, ◌≡◌, List, [], ◌∷◌, ◌++◌, true, false, cond, length, get_or, replicate, ltb, leb}
use Rattle.std.specs.Prelude.{Err, Ok, Result}
use Rattle.loops.specs.Put.{put_from}
use Rattle.kinds.specs.Limits.{most_stops, most_runs, run_numbers, runs_room, codes_room, most_text}
use Rattle.kinds.specs.Refusals.{refusal}
use Rattle.kinds.specs.Kinds.{GoodRun}
use Rattle.kinds.specs.declared.Code.{Code}
use Rattle.kinds.specs.declared.Run.{Run}
use Rattle.words.specs.Bytes.{bytes}
use Rattle.words.specs.Words.{lf, seek, begins_b, is_code}
use Rattle.lookup.specs.Lookup.{code_start, code_length, has_code, put_code, Placed}
use Rattle.lines.specs.Lines.{line_of}
use Rattle.kinds.specs.declared.Reason.{Reason}
use Rattle.lines.specs.declared.Line.{Line}
use Rattle.lines.specs.declared.Line.TheVariants as line
use Rattle.kinds.specs.declared.Reason.TheVariants as reason
use Rattle.reader.specs.declared.Counts.{Counts}
use Rattle.kinds.specs.declared.Refusal.{Refusal}

-- What was read so far: the number of the line to come, the stops, the runs, and the two lists that are filled, each as long as its room.
pub record Sofar : Type 0 where
  pub line : ℕ
  pub stops : ℕ
  pub runs : ℕ
  pub codes : List ℕ
  pub numbers : List ℕ

-- a text was read whole, or refused for a reason and at a place
pub data ReadOutcome : Type 0 where
  whole : Sofar → ReadOutcome
  bad : Reason → ℕ → ReadOutcome

-- "FROM TO DEP ARR TRIP": the numbers of a run, and these put in as run k
abbrev pub numbers_of : Run → List ℕ
numbers_of r = r.from ∷ r.to ∷ r.dep ∷ r.arr ∷ r.trip ∷ []

unfoldable pub put_run : List ℕ → ℕ → Run → List ℕ
put_run l k r = put_from l (run_numbers * k) (numbers_of r)

-- "The stops stand in rank order: the first is stop 0"
abbrev pub one_stop_more : Sofar → Code → Sofar
one_stop_more b c =
    record { line = b.line + 1; stops = b.stops + 1; runs = b.runs; codes = put_code b.codes b.stops c.start c.length; numbers = b.numbers }

-- "Runs are numbered from 0 in file order."
abbrev pub one_run_more : Sofar → Run → Sofar
one_run_more b r =
    record { line = b.line + 1; stops = b.stops; runs = b.runs + 1; codes = b.codes; numbers = put_run b.numbers b.runs r }

-- What a line leads to; its LF stands at e, and go reads on. "bytes after "end" are refusal 2, at the line where they are met".
abbrev pub next : (ℕ → Sofar → ReadOutcome) → List ℕ → ℕ → Sofar → Result Line Reason → ReadOutcome
next go s e b (Ok (line.Stop c)) = go (e + 1) (one_stop_more b c)
next go s e b (Ok (line.Run r)) = go (e + 1) (one_run_more b r)
next go s e b (Ok line.End) = cond (ltb (e + 1) (length s)) (bad reason.LineShape (b.line + 1)) (whole b)
next go s e b (Err n) = bad n b.line

-- the line that begins at a ends where its LF stands, or where the text does
abbrev pub line_end : List ℕ → ℕ → ℕ
line_end s a = seek lf s a (length s)

-- One line. "a line without LF [is] refusal 2, at the line where [it is] met and before any other refusal of that line; a missing "end" is at the
-- line after the last": there a line of no bytes has no LF.
abbrev pub read_line : (ℕ → Sofar → ReadOutcome) → List ℕ → ℕ → Sofar → ReadOutcome
read_line go s a b =
    cond (leb (length s) (line_end s a)) (bad reason.LineShape b.line)
    (next go s (line_end s a) b (line_of s b.codes b.stops b.runs a (line_end s a)))

-- The lines from a on. f is at least the number of bytes that are left (each line takes one or more), so at zero none is.
unfoldable pub read_from : ℕ → List ℕ → ℕ → Sofar → ReadOutcome
read_from zero s a b = bad reason.LineShape b.line
read_from (suc f) s a b = read_line (read_from f s) s a b

-- the first line, with its LF
abbrev pub first_word : List ℕ
first_word = bytes "timetable 1" ++ (lf ∷ [])

-- line 2 is to come, and the rooms, of these lengths, are all zero
abbrev pub start : ℕ → ℕ → Sofar
start runs codes = record { line = 2; stops = 0; runs = 0; codes = replicate codes 0; numbers = replicate runs 0 }

-- The text's meaning, read into rooms of these lengths. "Reader: 17, 8 for text length, then by line"; "Line 1 has only refusal 1".
unfoldable pub read_text : List ℕ → ℕ → ℕ → ReadOutcome
read_text s runs codes =
    cond (ltb runs runs_room) (bad reason.RoomShort 0)
    (cond (ltb codes codes_room) (bad reason.RoomShort 0)
    (cond (ltb most_text (length s)) (bad reason.OverLimit 0)
    (cond (begins_b s 0 (length s) first_word) (read_from (length s) s (length first_word) (start runs codes)) (bad reason.FirstLine 1))))

-- the answer, and what each room holds in the end: "A refusal carries number and place only .., and writable buffers are all zero."
abbrev pub answer_of : ReadOutcome → Result Counts Refusal
answer_of (whole b) = Ok (record { stops = b.stops; runs = b.runs })
answer_of (bad n p) = Err (refusal n p)

abbrev pub runs_of : ReadOutcome → ℕ → List ℕ
runs_of (whole b) room = b.numbers
runs_of (bad n p) room = replicate room 0

abbrev pub codes_of : ReadOutcome → ℕ → List ℕ
codes_of (whole b) room = b.codes
codes_of (bad n p) room = replicate room 0

-- number f of run i in the list
abbrev pub number_of_run : List ℕ → ℕ → ℕ → ℕ
number_of_run l i f = get_or l (run_numbers * i + f) 0

-- run i of the list is a good run
abbrev pub GoodAt : ℕ → List ℕ → ℕ → Type 0
GoodAt stops l i =
    GoodRun stops (get_or l (run_numbers * i) 0) (number_of_run l i 1) (number_of_run l i 2) (number_of_run l i 3) (number_of_run l i 4)

-- So many stops and runs, read from the text s into rooms of these lengths, which now hold these numbers and codes.
pub record GoodRead (s : List ℕ) (roomR roomC stops runs : ℕ) (numbers codes : List ℕ) : Type 0 where
  pub few : stops ≤ most_stops
  pub few_runs : runs ≤ most_runs
  pub numbers_long : length numbers ≡ roomR
  pub codes_long : length codes ≡ roomC
  -- each run is good among the stops
  pub good : (i : ℕ) → i < runs → GoodAt stops numbers i
  -- each code stands in the text and is a code, and no other stop has it
  pub placed : Placed s codes stops
  pub coded : (j : ℕ) → j < stops → is_code s (code_start codes j) (code_length codes j) ≡ true
  pub apart : (i j : ℕ) → i < j → j < stops → has_code s codes s (code_start codes j) (code_length codes j) i ≡ false
  -- beyond what was written there are zeros
  pub numbers_zero : (k : ℕ) → run_numbers * runs ≤ k → get_or numbers k 0 ≡ 0
  pub codes_zero : (k : ℕ) → 2 * stops ≤ k → get_or codes k 0 ≡ 0
