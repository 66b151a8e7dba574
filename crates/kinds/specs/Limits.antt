-- "Numbers that bound the work", each once. src/lib.rt has the same as associated constants, and proves that they are the same.
use Rattle.std.specs.Prelude.{ℕ, ◌*◌}

-- "Stops 1 to 255."
abbrev pub most_stops : ℕ
most_stops = 255

-- "510 numbers that say where each code starts and how long it is"
abbrev pub codes_room : ℕ
codes_room = 2 * most_stops

-- "Runs 0 to 4,096."
abbrev pub most_runs : ℕ
most_runs = 4096

-- "a list of five numbers a run"
abbrev pub run_numbers : ℕ
run_numbers = 5

-- "room for 20,480 run numbers"
abbrev pub runs_room : ℕ
runs_room = run_numbers * most_runs

-- "Labels 0 to 8,192 in all."
abbrev pub most_labels : ℕ
most_labels = 8192

-- a label's pivot where it has none; no stop's number
abbrev pub no_pivot : ℕ
no_pivot = 65535

-- "Minutes 0 to 2,879."
abbrev pub last_minute : ℕ
last_minute = 2879

-- in the place of a minute: not reached. Later than every minute
abbrev pub unreached : ℕ
unreached = 65535

-- "Trip numbers 1 to 65,535."
abbrev pub most_trip : ℕ
most_trip = 65535

-- "Codes 1 to 64 bytes, each byte 33 to 126."
abbrev pub most_code : ℕ
most_code = 64

abbrev pub least_code_byte : ℕ
least_code_byte = 33

abbrev pub most_code_byte : ℕ
most_code_byte = 126

-- "Text at most 1,048,576 bytes."
abbrev pub most_text : ℕ
most_text = 1048576

-- "The program holds at most 65,536 bytes of input"
abbrev pub most_input : ℕ
most_input = 65536
