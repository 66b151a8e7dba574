-- The text and the codes of the lines that are written out.
use Rattle.std.specs.Prelude.{ℕ, List}
use Rattle.kinds.specs.declared.Code.{Code}
use Rattle.words.specs.Bytes.{bytes}

abbrev pub codes : List ℕ
codes = bytes "HUB MOOR QUAY-S"

abbrev pub hub : Code
hub = record { start = 0; length = 3 }

abbrev pub moor : Code
moor = record { start = 4; length = 4 }

abbrev pub quay : Code
quay = record { start = 9; length = 6 }
