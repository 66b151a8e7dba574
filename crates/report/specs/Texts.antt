-- The pieces that the printed lines are made of.
use Rattle.std.specs.Prelude.{ℕ, List, [], ◌∷◌, ◌++◌}
use Prim.Native.String.{String}
use Rattle.kinds.specs.declared.Code.{Code}
use Rattle.words.specs.Bytes.{bytes}
use Rattle.words.specs.Words.{lf, space}
use Rattle.printed.specs.Printed.{decimal, code_of}

-- a text and a number; a text and a code, which stands in the timetable text s
abbrev pub counted : String → ℕ → List ℕ
counted t n = bytes t ++ (space ∷ decimal n)

abbrev pub named : String → List ℕ → Code → List ℕ
named t s c = bytes t ++ (space ∷ code_of s c)

-- pieces one after the other, and the end of the line
abbrev pub saying : List (List ℕ) → List ℕ
saying [] = lf ∷ []
saying (x ∷ xs) = x ++ saying xs
