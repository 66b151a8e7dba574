-- The tables file: what its bytes say. How they are judged is in Judged.antt.
use Rattle.std.specs.Prelude.{ℕ, zero, suc, ◌+◌, ◌*◌, ◌/◌, ◌<◌, List, cond, get_or, eqb}
use Rattle.std.proofs.Math.Option.{Option, none, some}
use Rattle.kinds.specs.Limits.{most_stops, most_labels, no_pivot}
use Rattle.kinds.specs.declared.Label.{Label}
use Rattle.journeys.specs.Tables.{Side, outs, ins, Tables}
use Rattle.tables.specs.Format.{header_bytes, entry_bytes, label_bytes, no_pivot_byte}
use Rattle.tables.specs.declared.Bounds.{Bounds}

-- "All two-byte numbers low byte first."
abbrev pub two_at : List ℕ → ℕ → ℕ
two_at b i = get_or b i 0 + 256 * get_or b (i + 1) 0

abbrev pub stops_of : List ℕ → ℕ
stops_of b = get_or b 1 0

-- "the bodies, stop by stop, out-labels before in-labels": set 2s is the out-labels of stop s, set 2s + 1 its in-labels
abbrev pub set_of : Side → ℕ → ℕ
set_of outs s = 2 * s
set_of ins s = 2 * s + 1

abbrev pub owner_of : ℕ → ℕ
owner_of set = set / 2

-- an entry is "out-label count, in-label count": so the contents are the counts of the sets, in the sets' order
abbrev pub count_of : List ℕ → ℕ → ℕ
count_of b set = two_at b (header_bytes + 2 * set)

-- "Labels are numbered from 0 in this order": the number of a set's first label is how many labels the sets before it have
unfoldable pub start_of : List ℕ → ℕ → ℕ
start_of b zero = 0
start_of b (suc set) = start_of b set + count_of b set

abbrev pub end_of : List ℕ → ℕ → ℕ
end_of b set = start_of b set + count_of b set

abbrev pub labels_of : List ℕ → ℕ
labels_of b = start_of b (2 * stops_of b)

-- where label k begins in a file of n stops; a file of n stops and k labels is so long
abbrev pub place_of : ℕ → ℕ → ℕ
place_of n k = header_bytes + entry_bytes * n + label_bytes * k

-- room for any file: that of the most stops and labels
abbrev pub file_room : ℕ
file_room = place_of most_stops most_labels

-- "A label is six bytes: hub, departure (2), arrival (2), pivot (255 is none)."
abbrev pub pivot_read : ℕ → ℕ
pivot_read x = cond (eqb x no_pivot_byte) no_pivot x

unfoldable pub label_at : List ℕ → ℕ → Label
label_at b k = let p = place_of (stops_of b) k in
    record { hub = get_or b p 0; dep = two_at b (p + 1); arr = two_at b (p + 3); pivot = pivot_read (get_or b (p + 5) 0) }

-- the tables that the file holds
abbrev pub pivot_of : ℕ → Option ℕ
pivot_of p = cond (eqb p no_pivot) none (some p)

unfoldable pub tables_of : List ℕ → Tables
tables_of b =
    record {
      stops = stops_of b;
      start = λ side s. start_of b (set_of side s);
      end = λ side s. end_of b (set_of side s);
      hub = λ k. (label_at b k).hub;
      dep = λ k. (label_at b k).dep;
      arr = λ k. (label_at b k).arr;
      pivot = λ k. pivot_of (label_at b k).pivot;
    }

abbrev pub bounds_of : Tables → Side → ℕ → Bounds
bounds_of T side s = record { start = T.start side s; end = T.end side s }

-- the bytes of a slice are bytes
abbrev pub AreBytes : List ℕ → Type 0
AreBytes b = (i : ℕ) → get_or b i 0 < 256
