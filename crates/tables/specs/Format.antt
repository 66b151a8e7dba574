-- The numbers of the tables file's format 1; src/lib.rt has them as constants.
use Rattle.std.specs.Prelude.{ℕ}

-- "Byte 0 is 1."
abbrev pub format_mark : ℕ
format_mark = 1

-- before the contents: that byte, and "Byte 1 is the stop count n."
abbrev pub header_bytes : ℕ
header_bytes = 2

-- "n entries of four bytes"
abbrev pub entry_bytes : ℕ
entry_bytes = 4

-- "A label is six bytes"
abbrev pub label_bytes : ℕ
label_bytes = 6

-- "pivot (255 is none)"
abbrev pub no_pivot_byte : ℕ
no_pivot_byte = 255
