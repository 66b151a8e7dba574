-- The example day T: its text, what the reader reads of it, and its tables.
use Rattle.std.specs.Prelude.{ℕ, zero, suc, List, [], ◌∷◌, ◌++◌, length}
use Prim.Native.String.{String}
use Rattle.kinds.specs.Limits.{runs_room, codes_room}
use Rattle.words.specs.Bytes.{bytes}
use Rattle.words.specs.Words.{lf}
use Rattle.lookup.specs.Lookup.{stop_named}
use Rattle.reader.specs.Text.{ReadOutcome, whole, bad, read_text, runs_of, codes_of}
use Rattle.journeys.specs.Service.{Service}
use Rattle.timetable.specs.Numbers.{given_of}
use Rattle.timetable.specs.Slots.{service_of}

-- "Lines end in LF (byte 10)."
abbrev pub text_of : List String → List ℕ
text_of [] = []
text_of (l ∷ ls) = bytes l ++ (lf ∷ text_of ls)

-- "Input T" is these lines with its run lines in their place
abbrev pub text_with : List String → List ℕ
text_with runs = text_of ("timetable 1" ∷ "stop HUB" ∷ "stop MOOR" ∷ "stop QUAY-N" ∷ "stop QUAY-S" ∷ (runs ++ ("end" ∷ [])))

-- its run lines; "Runs are numbered from 0 in file order."
abbrev pub run_lines : List String
run_lines =
    "run MOOR HUB 480 500 11" ∷
    "run HUB QUAY-N 500 530 12" ∷
    "run HUB QUAY-N 510 525 13" ∷
    "run QUAY-S MOOR 540 560 14" ∷
    "run MOOR QUAY-N 490 540 15" ∷
    "run HUB QUAY-S 505 520 16" ∷
    []

-- the lines without line k
abbrev pub without : ℕ → List String → List String
without k [] = []
without zero (l ∷ ls) = ls
without (suc k) (l ∷ ls) = l ∷ without k ls

-- T; "T without run 2"
abbrev pub day_text : List ℕ
day_text = text_with run_lines

abbrev pub text_without2 : List ℕ
text_without2 = text_with (without 2 run_lines)

-- what the reader reads of a text, into rooms that any text fits
abbrev pub read_whole : List ℕ → ReadOutcome
read_whole s = read_text s runs_room codes_room

-- the timetable in force by what was read; a refused text has none
abbrev pub in_force_of : ReadOutcome → Service
in_force_of (whole b) = service_of (given_of b.stops b.runs) b.numbers
in_force_of (bad n p) = service_of (given_of 0 0) []

abbrev pub example_day : Service
example_day = in_force_of (read_whole day_text)

abbrev pub without_run2 : Service
without_run2 = in_force_of (read_whole text_without2)

-- the numbers and the codes of T, as the reader leaves them in their rooms; the stop of T with a code
abbrev pub day_numbers : List ℕ
day_numbers = runs_of (read_whole day_text) runs_room

abbrev pub day_codes : List ℕ
day_codes = codes_of (read_whole day_text) codes_room

abbrev pub stop_called : String → ℕ
stop_called name = stop_named day_text day_codes example_day.stops (bytes name) 0 (length (bytes name))

-- "Its tables, 54 bytes in hex: `01 04`, contents `00000000 01000100 00000200 01000100`, bodies `00E001F401FF 00F901300203 00FE010D02FF
-- 01EA011C02FF 011C023002FF 00F9010802FF`."
abbrev pub day_tables : List ℕ
day_tables =
    0x01 ∷ 0x04 ∷
    0x00 ∷ 0x00 ∷ 0x00 ∷ 0x00 ∷ 0x01 ∷ 0x00 ∷ 0x01 ∷ 0x00 ∷ 0x00 ∷ 0x00 ∷ 0x02 ∷ 0x00 ∷ 0x01 ∷ 0x00 ∷ 0x01 ∷ 0x00 ∷
    0x00 ∷ 0xE0 ∷ 0x01 ∷ 0xF4 ∷ 0x01 ∷ 0xFF ∷ 0x00 ∷ 0xF9 ∷ 0x01 ∷ 0x30 ∷ 0x02 ∷ 0x03 ∷ 0x00 ∷ 0xFE ∷ 0x01 ∷ 0x0D ∷ 0x02 ∷ 0xFF ∷
    0x01 ∷ 0xEA ∷ 0x01 ∷ 0x1C ∷ 0x02 ∷ 0xFF ∷ 0x01 ∷ 0x1C ∷ 0x02 ∷ 0x30 ∷ 0x02 ∷ 0xFF ∷ 0x00 ∷ 0xF9 ∷ 0x01 ∷ 0x08 ∷ 0x02 ∷ 0xFF ∷ []
