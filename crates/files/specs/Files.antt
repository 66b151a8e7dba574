-- What is known of a file that was read; the names under which a file is written before it gets its own; when it is whole.
use Rattle.std.specs.Prelude.{ℕ, ◌/◌, ◌%◌, ◌≤◌, ◌<◌, ◌≡◌, List, [], ◌∷◌, ◌++◌, length, take, Bool, false, cond, eqb, leb, None, Option, Some, Err, Ok, Result}
use Rattle.printed.specs.Printed.{digit}
use Rattle.words.specs.Bytes.{bytes}
use Rattle.files.specs.declared.Unmade.{Unmade}

-- the first n are there
abbrev pub IsPrefixLen : ℕ → List ℕ → Type 0
IsPrefixLen n xs = (n ≤ length xs) × (n ≡ length (take n xs))

-- so many bytes of the buffer, which has so many, are the file's
abbrev pub ReadWithin : ℕ → Option ℕ → Type 0
ReadWithin room (Some n) = n ≤ room
ReadWithin room None = Unit

-- a number below 100 with two digits
abbrev pub two_digits : ℕ → List ℕ
two_digits k = digit (k / 10) ∷ digit (k % 10) ∷ []

-- "Tables are written to a temporary name and renamed": "day.tables.part07", by a number of two digits
abbrev pub part_name : List ℕ → ℕ → List ℕ
part_name path k = path ++ (bytes ".part" ++ two_digits k)

-- so many bytes more than the file's own name
abbrev pub part_more : ℕ
part_more = 7

-- so many such names has a file
abbrev pub most_parts : ℕ
most_parts = 100

-- the number of the one that was made
abbrev pub PartWithin : {F : Type 0} → Result (ℕ × F) Unmade → Type 0
PartWithin (Ok p) = p.0 < most_parts
PartWithin (Err e) = Unit

-- with such a name and a zero byte behind it a file's name has at most 4,096 bytes, as the system wants it
abbrev pub name_most : ℕ
name_most = 4088

-- a name of so many bytes can be a written file's
abbrev pub is_name : ℕ → Bool
is_name n = cond (eqb n 0) false (leb n name_most)

-- all bytes were taken, they are kept, and the file was closed
abbrev pub is_whole : Bool → Bool → Bool → Bool
is_whole written kept closed = cond written (cond kept closed false) false
