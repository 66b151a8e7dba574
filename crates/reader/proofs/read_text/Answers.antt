use mathlib.Core.Path.{◌≡◌, sym, ◌∙◌}
use mathlib.Core.Bool.{cond}
use native.Mathlib.Omega.{arith}
use Prim.Native.Nat.{ℕ, ◌≤◌}
use Rattle.std.specs.Prelude.{List, length}
use Rattle.std.proofs.Common.{le-ltb}
use Rattle.kinds.specs.Limits.{runs_room, codes_room, most_text}
use Rattle.kinds.specs.declared.Reason.TheVariants as reason
use Rattle.words.specs.Words.{begins_b}
use Rattle.words.specs.WordsLaws.{begins_long}
use Rattle.lookup.specs.EnterLaws.{entered_none}
use Rattle.reader.specs.Text.{bad, read_text, first_word}
use Rattle.reader.specs.Reading.{lines_of}
use Rattle.reader.proofs.read_text.Goals as goal

-- in rooms that are long enough, a text that is not too long is judged by how it begins
judged : (s : List ℕ) (runs codes : ℕ) → runs_room ≤ runs → codes_room ≤ codes → length s ≤ most_text →
    read_text s runs codes ≡ cond (begins_b s 0 (length s) first_word) (lines_of s (length first_word) runs codes) (bad reason.FirstLine 1)
unfolding read_text lines_of
judged s runs codes h k l = rw (le-ltb runs runs_room h, le-ltb codes codes_room k, le-ltb most_text (length s) l)

pub read_lines-requires : goal.read_lines-requires
read_lines-requires c = let l = begins_long _ _ _ _ (sym c.begins.ensures ∙ c.if-begins.true) in
    record {
      short = c.if-text-gt-MOST.false;
      within = omega arith;
      runs_long = c.if-runs-lt-ROOM.false;
      codes_long = c.if-codes-lt-CODES_ROOM.false;
      runs_zero = c.requires.0;
      codes_zero = c.requires.1;
      index = entered_none _ _;
    }

pub returns-then-begins-clause-value : goal.returns-then-begins-clause-value
returns-then-begins-clause-value c =
    rw (judged _ _ _ c.if-runs-lt-ROOM.false c.if-codes-lt-CODES_ROOM.false c.if-text-gt-MOST.false, sym c.begins.ensures ∙ c.if-begins.true)
    c.read_lines.ensures.value

pub returns : goal.returns
returns c =
    let e = judged c.args.text.now _ _ c.if-runs-lt-ROOM.false c.if-codes-lt-CODES_ROOM.false c.if-text-gt-MOST.false in
    let begins = sym c.begins.ensures ∙ c.if-begins.false in
    record { value = rw (e, begins, c.new-2.ensures); filled_for = rw (e, begins) tt }
