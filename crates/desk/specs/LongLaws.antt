-- A text that is too long: the programs read one byte more than a text may have, and what they are told is what they would be told of the whole text.
-- (Of tables that are too long it is the same by `tables/specs/LongLaws`.)
use Rattle.std.specs.Prelude.{ℕ, ◌<◌, ◌≡◌, List, length}
use Rattle.std.proofs.Common.{arith}
use Rattle.kinds.specs.Limits.{most_text, runs_room, codes_room}
use Rattle.reader.specs.Text.{bad, read_text}
use Rattle.reader.specs.TextLaws.{text_long}
use Rattle.kinds.specs.declared.Reason.TheVariants as reason

-- it is 8, whatever it holds
pub long_text : (s : List ℕ) → most_text < length s → read_text s runs_room codes_room ≡ bad reason.OverLimit 0
long_text s h = text_long s runs_room codes_room (omega arith) (omega arith) h
