-- Laws of the starts of the sets: how they are written, that they stay where the room keeps them, and what is read of them.
use Rattle.std.specs.Prelude.{ℕ, ◌+◌, ◌*◌, ◌≤◌, ◌<◌, ◌≡◌, List, length, get_or}
use Rattle.std.proofs.Common.{sym, ap, ◌∙◌, arith, le_of_lt}
use Rattle.loops.specs.Filled.{filled}
use Rattle.loops.specs.FilledLaws.{length-filled, filled_at}
use Rattle.kinds.specs.Limits.{most_stops}
use Rattle.journeys.specs.Tables.{Side, outs, ins}
use Rattle.tables.specs.File.{start_of, end_of, set_of, labels_of, tables_of}
use Rattle.tables.specs.FileLaws.{start_more, set_within}
use Rattle.tables.specs.TablesLaws.{tables_start, tables_end, good_stops}
use Rattle.tables.specs.Good.{GoodFile}
use Rattle.label_sets.specs.Starts.{starts_room, Started}

pub starts_written : {b : List ℕ} {n : ℕ} (before : List ℕ) {x : List ℕ} → GoodFile b n → starts_room ≤ length before →
    x ≡ filled (start_of b) (2 * n + 1) before → Started b n x
starts_written {b} {n} before G long e = record {
  file = G;
  long = omega (arith, ap length e, length-filled (start_of b) (2 * n + 1) before, G.room.contents.few);
  are = λ set le.
      ap (λ l. get_or l set 0) e ∙ filled_at (start_of b) (2 * n + 1) before set (omega arith) (omega (arith, G.room.contents.few));
}

-- good tables with their starts beside them
pub started_of : {b : List ℕ} {n : ℕ} {room : List ℕ} → GoodFile b n → 2 * n < length room →
    ((set : ℕ) → set ≤ 2 * n → get_or room set 0 ≡ start_of b set) → Started b n room
started_of G long are = record { file = G; long = long; are = are }

-- the rest of the room may change
pub starts_kept : {b : List ℕ} {n : ℕ} {room after : List ℕ} → Started b n room → length after ≡ length room →
    ((set : ℕ) → set < starts_room → get_or after set 0 ≡ get_or room set 0) → Started b n after
starts_kept r e f = record {
  file = r.file;
  long = omega (arith, r.long);
  are = λ set le. f set (omega (arith, r.file.room.contents.few)) ∙ r.are set le;
}

module _ {b : List ℕ} {n : ℕ} {room : List ℕ} (r : Started b n room) where
  pub started_stops : (tables_of b).stops ≡ n
  started_stops = good_stops r.file

  pub started_few : (tables_of b).stops ≤ most_stops
  started_few = omega (arith, started_stops, r.file.room.contents.few)

  -- what is read of them, by the number of the set
  pub start-read : {set k : ℕ} → set ≤ 2 * n → k ≡ get_or room set 0 → k ≡ start_of b set
  start-read lt e = e ∙ r.are _ lt

  pub end_read : {set k : ℕ} → set < 2 * n → k ≡ get_or room (set + 1) 0 → k ≡ end_of b set
  end_read {set} lt e = e ∙ r.are (set + 1) (omega arith) ∙ start_more b set

  -- the bounds of a set are in order, and within the labels
  pub started_bounds : {set from to : ℕ} → set < 2 * n → from ≡ get_or room set 0 → to ≡ get_or room (set + 1) 0 → (from ≤ to) × (to ≤ labels_of b)
  started_bounds {set} lt e f =
      (omega (arith, start-read (le_of_lt lt) e, end_read lt f), omega (arith, end_read lt f, set_within {set = set} r.file.room.contents lt))

  pub labels_read_lem : {k : ℕ} → k ≡ get_or room (2 * n) 0 → k ≡ labels_of b
  labels_read_lem e = e ∙ r.are (2 * n) (omega arith) ∙ ap (λ (m : ℕ). start_of b (2 * m)) (sym r.file.room.contents.stops)

  -- and by its owner
  pub set-start : (side : Side) (o : ℕ) → o < n → get_or room (set_of side o) 0 ≡ (tables_of b).start side o
  set-start outs o lt = r.are (2 * o) (omega arith) ∙ sym (tables_start b outs o)
  set-start ins o lt = r.are (2 * o + 1) (omega arith) ∙ sym (tables_start b ins o)

  pub set_end : (side : Side) (o : ℕ) → o < n → get_or room (set_of side o + 1) 0 ≡ (tables_of b).end side o
  set_end outs o lt = r.are (2 * o + 1) (omega arith) ∙ start_more b (2 * o) ∙ sym (tables_end b outs o)
  set_end ins o lt = r.are (2 * o + 1 + 1) (omega arith) ∙ start_more b (2 * o + 1) ∙ sym (tables_end b ins o)

pub set_rising : (b : List ℕ) (side : Side) (o : ℕ) → (tables_of b).start side o ≤ (tables_of b).end side o
set_rising b side o = omega (arith, tables_start b side o, tables_end b side o)
