-- A list written over the front of a buffer that may be too short for it.
use Rattle.std.specs.Prelude.{ℕ, List, ◌++◌, length, take, drop}

-- the buffer e with as much of l as there is room for in the place of its first numbers
unfoldable pub written : List ℕ → List ℕ → List ℕ
written l e = take (length e) l ++ drop (length l) e
