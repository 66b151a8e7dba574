-- A buffer that is all zero.
use Rattle.std.specs.Prelude.{ℕ, List, length, replicate}

abbrev pub nought : ℕ
nought = 0

-- as many zeros as the list has numbers
abbrev pub zeros : List ℕ → List ℕ
zeros l = replicate (length l) nought
