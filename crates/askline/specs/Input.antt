-- The input of the program: a timetable "through its first "end" line", and then lines.
use Rattle.std.specs.Prelude.{ℕ, zero, suc, ◌+◌, List, cond, length, leb}
use Rattle.words.specs.Words.{lf, seek, is_word_b}
use Rattle.lines.specs.Lines.{end_word}
use Rattle.askline.specs.declared.Piece.{Piece}
use Rattle.askline.specs.declared.Piece.TheVariants.{Line, Unfinished, Done}

-- The place after the first line from a on that is exactly "end" and LF; the end of the input where there is none.
-- f is at least the number of bytes that are left (each line takes one or more).
unfoldable pub end_from : ℕ → List ℕ → ℕ → ℕ
end_from zero t a = length t
end_from (suc f) t a =
    let e : ℕ = seek lf t a (length t) in
    cond (leb (length t) e) (length t) (cond (is_word_b t a e end_word) (e + 1) (end_from f t (e + 1)))

-- the timetable is so many bytes of the input
unfoldable pub timetable_end : List ℕ → ℕ
timetable_end t = end_from (length t) t 0

-- what stands at a: a line with its LF, bytes "without LF", or no byte
unfoldable pub piece_at : List ℕ → ℕ → Piece
piece_at t a =
    let e : ℕ = seek lf t a (length t) in
    cond (leb (length t) a) Done (cond (leb (length t) e) Unfinished (Line e))
