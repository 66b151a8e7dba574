-- One step of the program: which line comes next, and what is to be printed after it.
use Rattle.std.specs.Prelude.{ℕ, ◌+◌, ◌≤◌, ◌<◌, ◌≡◌, List, length, take, get_or, None, Option, Result, Some}
use Rattle.kinds.specs.Refusals.{number_of}
use Rattle.kinds.specs.Limits.{most_text, most_input, runs_room, last_minute}
use Rattle.timetable.specs.Numbers.{run_at}
use Rattle.reader.specs.Text.{GoodRead}
use Rattle.both.specs.Both.{work_room}
use Rattle.askline.specs.declared.Piece.TheVariants as piece
use Rattle.askline.specs.AskLine.{ask_line}
use Rattle.askline.specs.Input.{piece_at}
use Rattle.printed.specs.Printed.{no_line, longest_line}
use Rattle.printed.specs.Wrote.{Wrote}
use Rattle.answers.specs.Answers.{LineGets, head_of, rides_in, ride_line_of, Ridden}
use Rattle.journey_lines.specs.Output.{Held, held_of, refused_line}
use Rattle.journey_lines.specs.declared.Sizes.{Sizes}
use Rattle.journey_lines.specs.declared.Turn.{Turn}
use Rattle.journey_lines.specs.declared.Stage.{Stage}
use Rattle.journey_lines.specs.declared.Stage.TheVariants.{Refused, Asks, Over}
use Rattle.kinds.specs.declared.Reason.TheVariants as reason
use Rattle.rides.specs.declared.Listed.{Listed}
use Rattle.kinds.specs.declared.Refusal.{Refusal}
use Rattle.journey_lines.specs.declared.Printed.{Printed}

-- The list of rides was `list` and is `list'`, the buffer was `out` and is `out'`.

-- a line of so many bytes, and what is to be printed after it
abbrev pub printing : ℕ → Stage → Option Printed
printing n s = Some (record { bytes = n; after = s })

-- The line xs was written into the buffer; s is to be printed after it.
pub record Writes (out : List ℕ) (xs : List ℕ) (s : Stage) (out' : List ℕ) (x : Option Printed) : Type 0 where
  pub bytes : ℕ
  pub wrote : Wrote out 0 xs out' bytes
  pub short : bytes ≤ longest_line
  pub is : x ≡ printing bytes s

-- The turn is that of the next listed ride, or of the line at `at`. An ask that is refused ends nothing: the line after it is next.
pub data TurnStep (h : Held) (t : List ℕ) (z : Sizes) (p : Turn) (list out list' out' : List ℕ) (x : Option Printed) : Type 0 where
  ride : p.ride < p.rides → list' ≡ list →
      Writes out (ride_line_of h.text h.codes (run_at h.runs (get_or list p.ride 0)))
      (Asks z (record { at = p.at; ride = p.ride + 1; rides = p.rides })) out' x →
      TurnStep h t z p list out list' out' x
  line : (e : ℕ) (y : Result Listed Refusal) → p.rides ≤ p.ride → piece_at t p.at ≡ piece.Line e →
      LineGets h.tables h.given h.runs work_room (ask_line h.text h.codes h.given.stops t p.at e) list list' y →
      Writes out (head_of y) (Asks z (record { at = e + 1; ride = 0; rides = rides_in y })) out' x → TurnStep h t z p list out list' out' x
  unfinished : p.rides ≤ p.ride → piece_at t p.at ≡ piece.Unfinished → list' ≡ list → Writes out (no_line (number_of reason.LineShape)) Over out' x →
      TurnStep h t z p list out list' out' x
  none : p.rides ≤ p.ride → piece_at t p.at ≡ piece.Done → list' ≡ list → out' ≡ out → x ≡ None → TurnStep h t z p list out list' out' x

-- nothing follows a refusal's line
abbrev pub StepOf : List ℕ → List ℕ → List ℕ → List ℕ → Stage → List ℕ → List ℕ → List ℕ → List ℕ → Option Printed → Type 0
StepOf t runs codes tables (Refused r) list out list' out' x = Writes out (refused_line r) Over out' x × (list' ≡ list)
StepOf t runs codes tables (Asks z p) list out list' out' x = TurnStep (held_of t runs codes tables z) t z p list out list' out' x
StepOf t runs codes tables Over list out list' out' x = (x ≡ None) × (list' ≡ list) × (out' ≡ out)

-- a text and its asks, one behind the other, have no more bytes
abbrev pub most_held : ℕ
most_held = most_text + most_input

-- where a step may be made: the timetable was read, the sizes are within the rooms, and the rides of this turn can be printed
pub record Ready (t runs codes tables list : List ℕ) (z : Sizes) (p : Turn) : Type 0 where
  pub short : length t ≤ most_held
  pub text_in : z.text ≤ length t
  pub tables_in : z.tables ≤ length tables
  pub roomy : runs_room ≤ length runs
  pub read : GoodRead (take z.text t) (length runs) (length codes) z.given.stops z.given.runs runs codes
  pub listed : length list ≡ last_minute
  pub due : p.ride ≤ p.rides
  pub ridden : (k : ℕ) → k < p.rides → Ridden (take z.text t) codes runs list k

abbrev pub Stands : List ℕ → List ℕ → List ℕ → List ℕ → List ℕ → Stage → Type 0
Stands t runs codes tables list (Refused r) = Unit
Stands t runs codes tables list (Asks z p) = Ready t runs codes tables list z p
Stands t runs codes tables list Over = Unit
