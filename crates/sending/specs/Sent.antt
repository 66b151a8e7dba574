-- The part of a program that hands lines on. No contract can say which bytes a program writes. What can be said: where no write fails, the lines
-- that were written have, together, as many bytes as what is to be printed has; and where one fails, at least as many more were due.
use Rattle.std.specs.Prelude.{ℕ, ◌+◌, ◌≤◌, ◌<◌, ◌≡◌, List, length, Err, Ok, Result}
use Rattle.handing.specs.declared.Failure.{Failure}
use Rattle.journey_lines.specs.declared.Stage.{Stage}
use Rattle.journey_lines.specs.Output.{Prints}
use Rattle.handing.specs.declared.Written.{Written}

-- a line was due: what was written and the bytes of the write that failed are within what is to be printed
pub record CutFrom (t runs codes tables list : List ℕ) (s : Stage) (f : Failure) : Type 0 where
  pub some : 0 < f.bytes
  pub due : (xs : List ℕ) → Prints t runs codes tables list s xs → f.before + f.bytes ≤ length xs

-- from a stage on
abbrev pub SentFrom : List ℕ → List ℕ → List ℕ → List ℕ → List ℕ → Stage → Result Written Failure → Type 0
SentFrom t runs codes tables list s (Ok w) = (xs : List ℕ) × Prints t runs codes tables list s xs × (w.bytes ≡ length xs)
SentFrom t runs codes tables list s (Err f) = CutFrom t runs codes tables list s f
