-- What one line of the timetable text says. The line is the stretch of the text s from a up to e, where its LF stands.
use Rattle.std.specs.Prelude.{ℕ, ◌+◌, ◌-◌, ◌≤◌, List, cond, not, length, ltb, leb, eqb, Err, Ok, Result}
use Rattle.kinds.specs.Limits.{most_stops, most_runs}
use Rattle.kinds.specs.Kinds.{run_of}
use Rattle.words.specs.Bytes.{bytes}
use Rattle.words.specs.Words.{space, seek, begins_b, is_word_b, number_at, is_code}
use Rattle.words.specs.declared.Number.{Number}
use Rattle.lookup.specs.Lookup.{stop_named}
use Rattle.lines.specs.declared.Field.{Field}
use Rattle.lines.specs.declared.Fields.{Fields}
use Rattle.lines.specs.declared.Line.{Line}
use Rattle.lines.specs.declared.Line.TheVariants as line
use Rattle.kinds.specs.declared.Reason.TheVariants as reason
use Rattle.kinds.specs.declared.Run.{Run}
use Rattle.kinds.specs.declared.Reason.{Reason}
use Rattle.lines.specs.declared.Numbers.{Numbers}

-- what comes of a number that was read; "any other form is refusal 2"
abbrev pub numbered : Result Number Reason → (Number → Result Numbers Reason) → Result Numbers Reason
numbered (Ok x) go = go x
numbered (Err n) go = Err n

-- "run FROM TO DEP ARR TRIP": the three numbers, from a on. A space ends DEP and ARR, the line's end TRIP.
unfoldable pub numbers_at : List ℕ → ℕ → ℕ → Result Numbers Reason
numbers_at s a e =
    numbered (number_at s a e) (λ dep.
    cond (leb e dep.end) (Err reason.LineShape)
    (numbered (number_at s (dep.end + 1) e) (λ arr.
    cond (leb e arr.end) (Err reason.LineShape)
    (numbered (number_at s (arr.end + 1) e) (λ trip.
    cond (ltb trip.end e) (Err reason.LineShape)
    (Ok (record { dep = dep.value; arr = arr.value; trip = trip.value })))))))

-- the fields of a run line whose codes and numbers were read
abbrev pub fielded : Field → Field → Result Numbers Reason → Result Fields Reason
fielded from to (Ok x) = Ok (record { from = from; to = to; numbers = x })
fielded from to (Err n) = Err n

-- "A run line has exactly five spaces": one before a, one where FROM ends, one where TO ends, and those of the numbers
unfoldable pub fields_at : List ℕ → ℕ → ℕ → Result Fields Reason
fields_at s a e =
    let first : ℕ = seek space s a e in
    let second : ℕ = seek space s (first + 1) e in
    cond (leb e first) (Err reason.LineShape)
    (cond (leb e second) (Err reason.LineShape)
    (fielded (record { at = a; end = first }) (record { at = first + 1; end = second }) (numbers_at s (second + 1) e)))

-- "In a stop line everything after "stop " is the code": from a on. After a run line it is out of place; then "a stop line 3, 4, 8".
unfoldable pub read_stop_line : List ℕ → List ℕ → ℕ → ℕ → ℕ → ℕ → Result Line Reason
read_stop_line s codes stops runs a e =
    cond (ltb 0 runs) (Err reason.LineShape)
    (cond (not (is_code s a (e - a))) (Err reason.CodeBad)
    (cond (ltb (stop_named s codes stops s a (e - a)) stops) (Err reason.CodeRepeated)
    (cond (leb most_stops stops) (Err reason.OverLimit)
    (Ok (line.Stop (record { start = a; length = e - a }))))))

-- the run of its numbers, where there can be one more
abbrev pub judged : ℕ → Result Run Reason → Result Line Reason
judged runs (Err n) = Err n
judged runs (Ok r) = cond (leb most_runs runs) (Err reason.OverLimit) (Ok (line.Run r))

-- "a run line 2, 5, 6, 7, 8": its fields are well shaped; FROM and TO are the numbers of the stops with those codes
unfoldable pub run_fields : List ℕ → List ℕ → ℕ → ℕ → Fields → Result Line Reason
run_fields s codes stops runs f =
    judged runs
    (run_of stops
    (stop_named s codes stops s f.from.at (f.from.end - f.from.at))
    (stop_named s codes stops s f.to.at (f.to.end - f.to.at))
    f.numbers.dep
    f.numbers.arr
    f.numbers.trip)

-- what comes of a run line's fields that were read
abbrev pub with_fields : Result Fields Reason → (Fields → Result Line Reason) → Result Line Reason
with_fields (Ok f) go = go f
with_fields (Err n) go = Err n

-- "run FROM TO DEP ARR TRIP": the fields from a on. Before any stop it is out of place.
unfoldable pub read_run_line : List ℕ → List ℕ → ℕ → ℕ → ℕ → ℕ → Result Line Reason
read_run_line s codes stops runs a e = cond (eqb stops 0) (Err reason.LineShape) (with_fields (fields_at s a e) (run_fields s codes stops runs))

-- what a line begins with, or is
abbrev pub stop_word : List ℕ
stop_word = bytes "stop "

abbrev pub run_word : List ℕ
run_word = bytes "run "

abbrev pub end_word : List ℕ
end_word = bytes "end"

-- A line after the first: a run line, a stop line, "end" after one or more stops; "a line out of place" and any other line is refusal 2.
unfoldable pub line_of : List ℕ → List ℕ → ℕ → ℕ → ℕ → ℕ → Result Line Reason
line_of s codes stops runs a e =
    cond (begins_b s a e run_word) (read_run_line s codes stops runs (a + length run_word) e)
    (cond (begins_b s a e stop_word) (read_stop_line s codes stops runs (a + length stop_word) e)
    (cond (is_word_b s a e end_word) (cond (ltb 0 stops) (Ok line.End) (Err reason.LineShape))
    (Err reason.LineShape)))

-- the codes of a run line stand in the text
pub record FieldsWithin (s : List ℕ) (f : Fields) : Type 0 where
  pub from_low : f.from.at ≤ f.from.end
  pub from_high : f.from.end ≤ length s
  pub to_low : f.to.at ≤ f.to.end
  pub to_high : f.to.end ≤ length s
