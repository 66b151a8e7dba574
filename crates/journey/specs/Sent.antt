-- The program's own part. No contract can say which bytes a program writes. What can be said: where no write fails, the lines that were written have,
-- together, as many bytes as the output for the input has; and where one fails, at least as many more were due.
use Rattle.std.specs.Prelude.{ℕ, ◌+◌, ◌≤◌, ◌<◌, ◌≡◌, List, length, Err, Ok, Result}
use Rattle.handing.specs.declared.Failure.{Failure}
use Rattle.journey_lines.specs.Output.{OutputOf}
use Rattle.handing.specs.declared.Written.{Written}

-- what was written and the bytes of the write that failed are within the output
pub record CutFor (t : List ℕ) (f : Failure) : Type 0 where
  pub some : 0 < f.bytes
  pub due : (xs : List ℕ) → OutputOf t xs → f.before + f.bytes ≤ length xs

-- for the whole input
abbrev pub SentFor : List ℕ → Result Written Failure → Type 0
SentFor t (Ok w) = (xs : List ℕ) × OutputOf t xs × (w.bytes ≡ length xs)
SentFor t (Err f) = CutFor t f
