-- The loop over the lines: what is still to be read gives the whole outcome.
use Rattle.std.specs.Prelude.{ℕ, ◌+◌, ◌≤◌, ◌≡◌, List, length}
use Rattle.loops.specs.Zero.{zeros}
use Rattle.kinds.specs.Limits.{most_runs, most_text, runs_room, codes_room}
use Rattle.lookup.specs.Index.{CodesIndexed}
use Rattle.reader.specs.Text.{Sofar, ReadOutcome, whole, bad, read_from, start, GoodRead}

-- the lines from a on, read into rooms of these lengths
unfoldable pub lines_of : List ℕ → ℕ → ℕ → ℕ → ReadOutcome
lines_of s a runs codes = read_from (length s) s a (start runs codes)

-- what the loop leaves in the rooms: the whole lists where the text was read whole, anything where it was refused
abbrev pub filled_for : ReadOutcome → List ℕ → List ℕ → Type 0
filled_for (whole b) numbers codes = (numbers ≡ b.numbers) × (codes ≡ b.codes)
filled_for (bad n p) numbers codes = Unit

-- where the loop may begin
pub record Readable (s : List ℕ) (a : ℕ) (runs codes slots : List ℕ) : Type 0 where
  pub short : length s ≤ most_text
  pub within : a ≤ length s
  pub runs_long : runs_room ≤ length runs
  pub codes_long : codes_room ≤ length codes
  pub runs_zero : runs ≡ zeros runs
  pub codes_zero : codes ≡ zeros codes
  pub index : CodesIndexed s codes 0 slots

-- with o the whole outcome: the loop stands at a, before line `line`
pub record Reading (s : List ℕ) (o : ReadOutcome) (roomR roomC a line stops runs : ℕ) (numbers codes slots : List ℕ) : Type 0 where
  pub fuel : ℕ
  pub rest : o ≡ read_from fuel s a (record { line = line; stops = stops; runs = runs; codes = codes; numbers = numbers })
  pub within : a ≤ length s
  pub enough : length s ≤ fuel + a
  pub index : CodesIndexed s codes stops slots
  pub few : runs ≤ most_runs
  pub lined : line ≡ stops + runs + 2
  pub runs_same : length numbers ≡ roomR
  pub codes_same : length codes ≡ roomC

-- what was read so far is as good as what was read whole
abbrev pub GoodSofar : List ℕ → ℕ → ℕ → Sofar → Type 0
GoodSofar s roomR roomC b = GoodRead s roomR roomC b.stops b.runs b.numbers b.codes
