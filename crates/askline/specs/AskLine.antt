-- An ask line: "early FROM TO T", "late FROM TO T", "short FROM TO T T2". The line is the stretch of the input t from a up to e, where its LF stands.
use Rattle.std.specs.Prelude.{ℕ, ◌≡◌, ◌+◌, ◌-◌, List, cond, length, ltb, leb, Err, Ok, Result}
use Rattle.words.specs.Bytes.{bytes}
use Rattle.words.specs.Words.{space, seek, begins_b, number_at}
use Rattle.words.specs.declared.Number.{Number}
use Rattle.lookup.specs.Lookup.{stop_named}
use Rattle.lines.specs.declared.Field.{Field}
use Rattle.asks.specs.declared.Wanted.TheVariants as wanted
use Rattle.askline.specs.declared.Word.{Word}
use Rattle.askline.specs.declared.Word.TheVariants.{Early, Late, Short}
use Rattle.kinds.specs.declared.Reason.TheVariants as reason
use Rattle.askline.specs.declared.Shape.{Shape}
use Rattle.kinds.specs.declared.Reason.{Reason}
use Rattle.asks.specs.declared.Wanted.{Wanted}
use Rattle.askline.specs.declared.Ask.{Ask}

-- "Ask numbers have the form of run numbers". The last one ends where the line does.
abbrev pub ended : ℕ → Result Number Reason → Result ℕ Reason
ended e (Ok x) = cond (ltb x.end e) (Err reason.LineShape) (Ok x.value)
ended e (Err n) = Err n

unfoldable pub last_number : List ℕ → ℕ → ℕ → Result ℕ Reason
last_number t a e = ended e (number_at t a e)

-- what comes of the last number
abbrev pub lastly : Result ℕ Reason → (ℕ → Result Wanted Reason) → Result Wanted Reason
lastly (Ok m) go = go m
lastly (Err n) go = Err n

-- T and T2: a space ends T
abbrev pub firstly : ℕ → Result Number Reason → (Number → Result Wanted Reason) → Result Wanted Reason
firstly e (Ok x) go = cond (leb e x.end) (Err reason.LineShape) (go x)
firstly e (Err n) go = Err n

unfoldable pub short_at : List ℕ → ℕ → ℕ → Result Wanted Reason
short_at t a e = firstly e (number_at t a e) (λ x. lastly (last_number t (x.end + 1) e) (λ t2. Ok (wanted.Short x.value t2)))

-- the minutes that belong to the word, from a on
unfoldable pub minutes_at : Word → List ℕ → ℕ → ℕ → Result Wanted Reason
minutes_at Early t a e = lastly (last_number t a e) (λ m. Ok (wanted.Early m))
minutes_at Late t a e = lastly (last_number t a e) (λ m. Ok (wanted.Late m))
minutes_at Short t a e = short_at t a e

-- FROM and TO, each up to the next space, and the minutes
abbrev pub shaped : Field → Field → Result Wanted Reason → Result Shape Reason
shaped from to (Ok w) = Ok (record { from = from; to = to; wanted = w })
shaped from to (Err n) = Err n

unfoldable pub shape_at : Word → List ℕ → ℕ → ℕ → Result Shape Reason
shape_at word t a e =
    let first : ℕ = seek space t a e in
    let second : ℕ = seek space t (first + 1) e in
    cond (leb e first) (Err reason.LineShape)
    (cond (leb e second) (Err reason.LineShape)
    (shaped (record { at = a; end = first }) (record { at = first + 1; end = second }) (minutes_at word t (second + 1) e)))

-- what an ask begins with
abbrev pub early_word : List ℕ
early_word = bytes "early "

abbrev pub late_word : List ℕ
late_word = bytes "late "

abbrev pub short_word : List ℕ
short_word = bytes "short "

unfoldable pub shape_of : List ℕ → ℕ → ℕ → Result Shape Reason
shape_of t a e =
    cond (begins_b t a e early_word) (shape_at Early t (a + length early_word) e)
    (cond (begins_b t a e late_word) (shape_at Late t (a + length late_word) e)
    (cond (begins_b t a e short_word) (shape_at Short t (a + length short_word) e)
    (Err reason.LineShape)))

-- the stop that a field names, by its code in the timetable text s
abbrev pub named_by : List ℕ → List ℕ → ℕ → List ℕ → Field → ℕ
named_by s codes stops t f = stop_named s codes stops t f.at (f.end - f.at)

-- "An ill-shaped ask .. is "no 2"; after that an unknown code is "no 5"."
-- (The reason of a shape that is none is always 2: AskLineLaws, shape_ill.)
abbrev pub ask_of : List ℕ → List ℕ → ℕ → List ℕ → Result Shape Reason → Result Ask Reason
ask_of s codes stops t (Err n) = Err n
ask_of s codes stops t (Ok f) =
    cond (leb stops (named_by s codes stops t f.from)) (Err reason.StopUnknown)
    (cond (leb stops (named_by s codes stops t f.to)) (Err reason.StopUnknown)
    (Ok (record { from = named_by s codes stops t f.from; to = named_by s codes stops t f.to; wanted = f.wanted })))

unfoldable pub ask_line : List ℕ → List ℕ → ℕ → List ℕ → ℕ → ℕ → Result Ask Reason
ask_line s codes stops t a e = ask_of s codes stops t (shape_of t a e)

-- refused, if at all, for its shape
abbrev pub Ill : {A : Type 0} → Result A Reason → Type 0
Ill (Ok x) = Unit
Ill (Err n) = n ≡ reason.LineShape
