-- What the program "journey" prints for its input t. No contract can say what a program writes: the contracts of this crate say which bytes come
-- next (Steps.antt), the program hands them on in this order, and by the laws (OutputLaws.antt) together they are what is said here.
use Rattle.kinds.specs.Refusals.{number_of}
use Rattle.std.specs.Prelude.{ℕ, ◌+◌, ◌≡◌, List, [], ◌++◌, cond, length, take, replicate, ltb, Err, Ok}
use Rattle.kinds.specs.Limits.{most_input, runs_room, codes_room, last_minute}
use Rattle.kinds.specs.declared.Refusal.{Refusal}
use Rattle.timetable.specs.declared.Given.{Given}
use Rattle.timetable.specs.Numbers.{given_of}
use Rattle.tables.specs.File.{file_room, AreBytes}
use Rattle.reader.specs.declared.Counts.{Counts}
use Rattle.reader.specs.Text.{ReadOutcome, bad, read_text, answer_of, runs_of, codes_of}
use Rattle.builder.specs.Build.{build_room, BuildOf, success}
use Rattle.both.specs.Both.{work_room}
use Rattle.askline.specs.declared.Piece.TheVariants as piece
use Rattle.askline.specs.AskLine.{ask_line}
use Rattle.askline.specs.Input.{timetable_end, piece_at}
use Rattle.printed.specs.Printed.{no_line, no_place_line}
use Rattle.answers.specs.Answers.{ride_lines, PrintedAsk}
use Rattle.journey_lines.specs.declared.Sizes.{Sizes}
use Rattle.journey_lines.specs.declared.Turn.{Turn}
use Rattle.journey_lines.specs.declared.Stage.{Stage}
use Rattle.journey_lines.specs.declared.Stage.TheVariants.{Refused, Asks, Over}
use Rattle.kinds.specs.declared.Reason.TheVariants as reason

-- ""journey" reads a timetable through its first "end" line"; "The program holds at most 65,536 bytes of input; longer input prints "no 8 0"."
unfoldable pub read_input : List ℕ → ℕ → ℕ → ReadOutcome
read_input t runs codes = cond (ltb most_input (length t)) (bad reason.OverLimit 0) (read_text (take (timetable_end t) t) runs codes)

-- Then the tables are built, also where no ask follows. The tables' room, so many bytes of it lent, then holds `tables`.
pub data StartOf (t : List ℕ) (runs codes work lent : ℕ) (tables : List ℕ) (s : Stage) : Type 0 where
  unread : (r : Refusal) → answer_of (read_input t runs codes) ≡ Err r → s ≡ Refused r → tables ≡ replicate lent 0 → StartOf t runs codes work lent tables s
  unbuilt : (k : Counts) (r : Refusal) → answer_of (read_input t runs codes) ≡ Ok k →
      BuildOf (given_of k.stops k.runs) (runs_of (read_input t runs codes) runs) work lent (Err r) tables → s ≡ Refused r →
      StartOf t runs codes work lent tables s
  built : (k : Counts) (n labels : ℕ) → answer_of (read_input t runs codes) ≡ Ok k →
      BuildOf (given_of k.stops k.runs) (runs_of (read_input t runs codes) runs) work lent (success n labels) tables →
      s ≡ Asks (record { given = given_of k.stops k.runs; text = timetable_end t; tables = n }) (record { at = timetable_end t; ride = 0; rides = 0 }) →
      StartOf t runs codes work lent tables s

-- what the program holds then: the timetable's text, where its codes stand, its stop and run counts, its runs' numbers, and the tables
pub record Held : Type 0 where
  pub text : List ℕ
  pub codes : List ℕ
  pub given : Given
  pub runs : List ℕ
  pub tables : List ℕ

abbrev pub held_of : List ℕ → List ℕ → List ℕ → List ℕ → Sizes → Held
held_of t runs codes tables z =
    record { text = take z.text t; codes = codes; given = z.given; runs = runs; tables = take z.tables tables }

-- what the ask line of t from a up to e prints, with room for 2,879 rides
abbrev pub LinePrints : Held → List ℕ → ℕ → ℕ → List ℕ → Type 0
LinePrints h t a e xs =
    PrintedAsk h.text h.codes h.tables h.given h.runs work_room (ask_line h.text h.codes h.given.stops t a e) (replicate last_minute 0) xs

-- What the lines of t from a on print, where P says what the line from one place up to another prints: each what it prints, one after the other; "An
-- ill-shaped ask, or one without LF, is "no 2"".
pub data LinesPrint (P : ℕ → ℕ → List ℕ → Type 0) (t : List ℕ) : ℕ → List ℕ → Type 0 where
  none : {a : ℕ} {xs : List ℕ} → piece_at t a ≡ piece.Done → xs ≡ [] → LinesPrint P t a xs
  unfinished : {a : ℕ} {xs : List ℕ} → piece_at t a ≡ piece.Unfinished → xs ≡ no_line (number_of reason.LineShape) → LinesPrint P t a xs
  line : {a : ℕ} {xs : List ℕ} (e : ℕ) (ys zs : List ℕ) → piece_at t a ≡ piece.Line e → P a e ys → LinesPrint P t (e + 1) zs → xs ≡ ys ++ zs →
      LinesPrint P t a xs

-- What is still to be printed when it is this turn: the lines of the listed rides after those that were printed, and then the lines from `at` on.
pub record TurnPrints (h : Held) (t list : List ℕ) (p : Turn) (xs : List ℕ) : Type 0 where
  pub left : List ℕ
  pub rides : ride_lines h.text h.codes h.runs list p.rides ≡ ride_lines h.text h.codes h.runs list p.ride ++ left
  pub rest : List ℕ
  pub lines : LinesPrint (LinePrints h t) t p.at rest
  pub is : xs ≡ left ++ rest

-- "A refused timetable prints "no", number and place, and nothing more. A refused build prints the same way."
abbrev pub refused_line : Refusal → List ℕ
refused_line r = no_place_line (number_of r.reason) r.place

-- what is still to be printed at a stage
abbrev pub Prints : List ℕ → List ℕ → List ℕ → List ℕ → List ℕ → Stage → List ℕ → Type 0
Prints t runs codes tables list (Refused r) xs = xs ≡ refused_line r
Prints t runs codes tables list (Asks z p) xs = TurnPrints (held_of t runs codes tables z) t list p xs
Prints t runs codes tables list Over xs = xs ≡ []

-- xs is the output for the input t: what is to be printed after the start, with the rooms that the program has
pub record OutputOf (t xs : List ℕ) : Type 0 where
  pub tables : List ℕ
  pub bytes : AreBytes tables
  pub stage : Stage
  pub starts : StartOf t runs_room codes_room build_room file_room tables stage
  pub prints : Prints t (runs_of (read_input t runs_room codes_room) runs_room) (codes_of (read_input t runs_room codes_room) codes_room) tables
      (replicate last_minute 0) stage xs
