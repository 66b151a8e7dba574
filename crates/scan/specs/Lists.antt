-- What a scan keeps, as lists of numbers.
use Rattle.std.specs.Prelude.{ℕ, ◌+◌, ◌*◌, ◌≤◌, ◌<◌, List, length, get_or, ◌≡◌}
use Rattle.kinds.specs.Limits.{most_stops, no_pivot, unreached}
use Rattle.scan.specs.Events.{slot_of}
use Rattle.scan.specs.Scan.{not_boarded, Kept}
use Rattle.scan.specs.Ordered.{read, Events}
use Rattle.scan.specs.declared.Cell.{Cell}

-- four numbers a stop
abbrev pub cell_numbers : ℕ
cell_numbers = 4

abbrev pub cells_room : ℕ
cells_room = cell_numbers * most_stops

-- a ride or a stop past the end is as it is at the start
unfoldable pub lows_of : List ℕ → ℕ → ℕ
lows_of l i = get_or l i not_boarded

unfoldable pub cells_of : List ℕ → ℕ → Cell
cells_of l x =
    record {
      at = get_or l (cell_numbers * x) unreached;
      low = get_or l (cell_numbers * x + 1) no_pivot;
      via = get_or l (cell_numbers * x + 2) no_pivot;
      changes = get_or l (cell_numbers * x + 3) no_pivot;
    }

abbrev pub kept_of : List ℕ → List ℕ → Kept
kept_of lows cells = record { lows = lows_of lows; cells = cells_of cells }

-- what a scan asks: the events are of good runs, and there is room for what is kept of their rides and of all stops
pub record Scannable (list order : List ℕ) (start n u : ℕ) (lows cells : List ℕ) : Type 0 where
  pub within : start ≤ n
  pub fits : n ≤ length order
  pub events : Events list order n
  pub stop : u < most_stops
  pub rides : (p : ℕ) → p < n → slot_of (read order p) < length lows
  pub stops : length cells ≡ cells_room
