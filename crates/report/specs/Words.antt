-- What each refusal means, in words.
use Rattle.std.specs.Prelude.{ℕ, List, [], ◌∷◌, ◌++◌, cond, eqb, leb}
use Prim.Native.String.{String}
use Rattle.kinds.specs.Refusals.{number_of}
use Rattle.kinds.specs.declared.Reason.{Reason}
use Rattle.kinds.specs.declared.Refusal.{Refusal}
use Rattle.words.specs.Bytes.{bytes}
use Rattle.report.specs.Texts.{counted, saying}
use Rattle.kinds.specs.declared.Reason.TheVariants as reason

-- "Numbers given back": each number with its meaning
pub record Meaning : Type 0 where
  pub number : ℕ
  pub words : String

abbrev means : ℕ → String → Meaning
means n t = record { number = n; words = t }

abbrev pub meanings : List Meaning
meanings =
    means (number_of reason.FirstLine) "the first line is not \"timetable 1\"" ∷
    means (number_of reason.LineShape) "the line is missing or unfinished, or has no form that may stand here" ∷
    means (number_of reason.CodeBad) "the stop code is empty, too long, or holds a character that no code has" ∷
    means (number_of reason.CodeRepeated) "an earlier stop has this code" ∷
    means (number_of reason.StopUnknown) "no stop has this code" ∷
    means (number_of reason.OwnStop) "the run ends at the stop where it starts" ∷
    means (number_of reason.OutOfRange) "a number is out of range, or the run does not arrive after it leaves" ∷
    means (number_of reason.OverLimit) "there are more stops or runs, or a longer text, than the limits allow" ∷
    means (number_of reason.NoTables) "the file holds no tables: it is too short, begins otherwise, or has no stops" ∷
    means (number_of reason.TablesLength) "the tables are cut short or too long, or have more labels than the limit" ∷
    means (number_of reason.LabelBad) "the tables hold a label that is not good, or not in its order" ∷
    means (number_of reason.StopHigh) "no stop has this number" ∷
    means (number_of reason.SameStop) "both stops are the same" ∷
    means (number_of reason.MinuteHigh) "the minute is later than the last one of a day" ∷
    means (number_of reason.MinutesCrossed) "the first minute is later than the second" ∷
    means (number_of reason.NoJourney) "there is no journey" ∷
    means (number_of reason.RoomShort) "the lent room is too short" ∷
    means (number_of reason.RidesMissing) "a run or a label of the journey is missing" ∷
    means (number_of reason.Unsupported) "the tables hold a label that the timetable does not support" ∷
    means (number_of reason.Gap) "the tables miss a journey that begins with this run and ends at this stop" ∷
    means (number_of reason.StopsDiffer) "the tables are for another number of stops than the timetable's" ∷
    means (number_of reason.LabelsOver) "the timetable needs more labels than the limit" ∷
    []

-- the words of number n, in a list of meanings; none for any other number
abbrev pub words_in : List Meaning → ℕ → List ℕ
words_in [] n = []
words_in (m ∷ ms) n = cond (eqb n m.number) (bytes m.words) (words_in ms n)

unfoldable pub words_of : ℕ → List ℕ
words_of n = words_in meanings n

-- no meaning takes more bytes
abbrev pub most_words : ℕ
most_words = 80

-- The column "Place". The numbers up to 8 are the reader's, and name a line of the timetable; 8 for the text's length names none.
abbrev pub line_place : ℕ → List ℕ
line_place p = cond (eqb p 0) [] (counted " at line" p ++ bytes " of the timetable")

-- by the reason; those up to 8 name a line, others nothing
abbrev pub place_by : Reason → Refusal → List ℕ
place_by reason.LabelBad r = counted " at label" r.place
place_by reason.Unsupported r = counted " at label" r.place
place_by reason.Gap r = counted " at run" r.place ++ counted ", stop" r.stop
place_by x r = cond (leb (number_of x) (number_of reason.OverLimit)) (line_place r.place) []

abbrev pub place_words : Refusal → List ℕ
place_words r = place_by r.reason r

-- "refused 19 at label 1: the tables hold a label that the timetable does not support"
unfoldable pub refusal_line : Refusal → List ℕ
refusal_line r = saying (counted "refused" (number_of r.reason) ∷ place_words r ∷ bytes ": " ∷ words_of (number_of r.reason) ∷ [])
