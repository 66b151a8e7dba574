-- The text and, behind it, the asks are held in one room.
use Rattle.std.specs.Prelude.{ℕ, ◌+◌, ◌≡◌, List, length, take}
use Rattle.kinds.specs.Limits.{most_text, most_input, runs_room, codes_room}
use Rattle.reader.specs.Text.{read_text, runs_of, codes_of}
use Rattle.timetable.specs.Numbers.{given_of}
use Rattle.both.specs.Both.{work_room}
use Rattle.desk.specs.Told.{Accepts}
use Rattle.journey_lines.specs.declared.Sizes.{Sizes}
use Rattle.journey_lines.specs.declared.Turn.{Turn}

-- of each one byte more is read than there may be
abbrev pub held_room : ℕ
held_room = most_text + 1 + (most_input + 1)

-- so much is in use, with a text and tables of so many bytes
abbrev pub sizes_of : ℕ → ℕ → ℕ → ℕ → Sizes
sizes_of stops count text tables = record { given = given_of stops count; text = text; tables = tables }

-- the tables are accepted against the text that stands before the asks in the input; these are the numbers and the codes' places that the reader left of it
pub record AcceptedFor (input runs codes tables : List ℕ) (z : Sizes) : Type 0 where
  pub accepts : Accepts (take z.text input) tables runs_room codes_room work_room (record { stops = z.given.stops; runs = z.given.runs })
  pub runs_are : runs ≡ runs_of (read_text (take z.text input) runs_room codes_room) runs_room
  pub codes_are : codes ≡ codes_of (read_text (take z.text input) runs_room codes_room) codes_room
  pub all : z.tables ≡ length tables

-- the first ask line follows the text
abbrev pub first_turn : ℕ → Turn
first_turn text = record { at = text; ride = 0; rides = 0 }
