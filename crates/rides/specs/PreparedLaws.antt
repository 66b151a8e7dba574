-- Laws of the working room made ready: first the starts are written, then the rides behind them; and that it is so in one way only.
use Rattle.std.specs.Prelude.{ℕ, ◌+◌, ◌*◌, ◌-◌, ◌≤◌, ◌<◌, ◌≡◌, List, length, get_or}
use Rattle.std.proofs.Common.{sym, ap, subst, ◌∙◌, arith, ext_get_or}
use Rattle.std.proofs.Math.Decide.{dec_lt}
use borrow.Rule.Slice.PartMut.{put_mid, same_len_mid}
use Rattle.loops.specs.Filled.{filled}
use Rattle.loops.specs.FilledLaws.{length-filled, filled_beyond}
use Rattle.loops.specs.PartLaws.{mid_at, mid_long, put_before, put_at}
use Rattle.tables.specs.File.{start_of}
use Rattle.timetable.specs.declared.Given.{Given}
use Rattle.timetable.specs.Slots.{slots_of, service_of}
use Rattle.timetable.proofs.SlotsLaws.{service_slots, slots_few}
use Rattle.departures.specs.Departures.{buckets, Indexed, SameFrom}
use Rattle.departures.specs.DeparturesLaws.{index_one}
use Rattle.label_sets.specs.Starts.{starts_room}
use Rattle.label_sets.specs.StartsLaws.{starts_written, starts_kept}
use Rattle.both.specs.Both.{work_room, BothGood}
use Rattle.opening.specs.Opening.{behind_starts, Ground}
use Rattle.rides.specs.Prepared.{Beside}

-- x is the room with the starts written
module _ {b : List ℕ} {n : ℕ} {given : Given} {runs : List ℕ} (before x : List ℕ) (B : BothGood b n given runs) (long : work_room ≤ length before)
    (e : x ≡ filled (start_of b) (2 * n + 1) before) where
  long_x : length x ≡ length before
  long_x = ap length e ∙ length-filled (start_of b) (2 * n + 1) before

  holds_starts : starts_room ≤ length x
  holds_starts = omega (arith, long_x)

  -- behind them all is as it was, and there is room for the rides
  behind_long : length (behind_starts x) ≡ length (behind_starts before)
  behind_long = omega (arith, long_x, mid_long starts_room x holds_starts, mid_long starts_room before (omega arith))

  behind_same : (p : ℕ) → get_or (behind_starts x) p 0 ≡ get_or (behind_starts before) p 0
  behind_same p =
      mid_at starts_room x p ∙ ap (λ l. get_or l (starts_room + p) 0) e ∙
      filled_beyond (start_of b) (2 * n + 1) before (starts_room + p) (omega (arith, B.file.room.contents.few)) ∙ sym (mid_at starts_room before p)

  pub rides_fit : buckets + slots_of given ≤ length (behind_starts x)
  rides_fit = omega (arith, long_x, mid_long starts_room x holds_starts, slots_few B.numbers)

  -- y is the part behind them with the rides written, z the room with that part
  module _ (y : List ℕ) (K : SameFrom (buckets + slots_of given) (behind_starts x) y) {z : List ℕ} (f : z ≡ put_mid starts_room (length x - starts_room) x y)
    where
      long_z : length z ≡ length x
      long_z = ap length f ∙ same_len_mid starts_room (length x - starts_room) x y K.long

      front : (p : ℕ) → p < starts_room → get_or z p 0 ≡ get_or x p 0
      front p lt = ap (λ l. get_or l p 0) f ∙ put_before starts_room x y holds_starts p lt

      part : behind_starts z ≡ y
      part =
          ext_get_or 0 (behind_starts z) y
          (omega (arith, long_z, K.long, mid_long starts_room x holds_starts, mid_long starts_room z (omega (arith, long_z, holds_starts))))
          (λ p _. mid_at starts_room z p ∙ ap (λ l. get_or l (starts_room + p) 0) f ∙ put_at starts_room x y holds_starts p)

      pub prepared : Indexed (service_of given runs) (λ p. get_or y p 0) → Ground b n z given runs
      prepared I = record {
        long = omega (arith, long_z, holds_starts);
        started = starts_kept (starts_written before B.file (omega arith) e) long_z front;
        by_departure = rw part (record { numbers = B.numbers; long = omega (arith, K.long, rides_fit); are = I });
      }

      pub beside : Beside n given before z
      beside = record {
        long = long_z ∙ long_x;
        between = λ p gt lt. front p lt ∙ ap (λ l. get_or l p 0) e ∙ filled_beyond (start_of b) (2 * n + 1) before p (omega arith);
        behind = rw part (record { long = K.long ∙ behind_long; beyond = λ p le. K.beyond p le ∙ behind_same p });
      }

-- ---- no second room meets the contract
module _ (b : List ℕ) (n : ℕ) (given : Given) (runs before x y : List ℕ) (P : Ground b n x given runs) (B : Beside n given before x)
    (Q : Ground b n y given runs) (C : Beside n given before y) where
  by_slots : {l : List ℕ} → SameFrom (buckets + slots_of given) (behind_starts before) l →
      SameFrom (buckets + (service_of given runs).slots) (behind_starts before) l
  by_slots {l} K = subst (λ (m : ℕ). SameFrom (buckets + m) (behind_starts before) l) (sym (service_slots given runs)) K

  one_part : behind_starts x ≡ behind_starts y
  one_part =
      index_one (service_of given runs) (behind_starts before) (behind_starts x) (behind_starts y)
      P.by_departure.are (by_slots B.behind) Q.by_departure.are (by_slots C.behind)

  pub prepared_one : x ≡ y
  prepared_one = ext_get_or 0 x y (B.long ∙ sym C.long) (λ p _. at p (dec_lt (2 * n) p) (dec_lt p starts_room))
    where
      at : (p : ℕ) → Dec (2 * n < p) → Dec (p < starts_room) → get_or x p 0 ≡ get_or y p 0
      at p (no h) d = P.started.are p (omega arith) ∙ sym (Q.started.are p (omega arith))
      at p (yes h) (yes k) = B.between p h k ∙ sym (C.between p h k)
      at p (yes h) (no k) =
          let q : p ≡ starts_room + (p - starts_room) = omega arith in
          subst (λ (r : ℕ). get_or x r 0 ≡ get_or y r 0) (sym q)
          (sym (mid_at starts_room x (p - starts_room)) ∙ ap (λ l. get_or l (p - starts_room) 0) one_part ∙ mid_at starts_room y (p - starts_room))
