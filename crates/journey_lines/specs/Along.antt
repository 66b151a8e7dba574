-- What is known while the lines are handed on.
use Rattle.std.specs.Prelude.{ℕ, ◌+◌, ◌*◌, ◌≤◌, ◌≡◌, List, ◌++◌, length}
use Rattle.kinds.specs.Limits.{runs_room, codes_room}
use Rattle.reader.specs.Text.{runs_of, codes_of}
use Rattle.printed.specs.Printed.{longest_line}
use Rattle.journey_lines.specs.Output.{read_input, Prints}
use Rattle.journey_lines.specs.Steps.{Stands}
use Rattle.journey_lines.specs.Turns.{left, most_lines}
use Rattle.journey_lines.specs.declared.Stage.{Stage}

-- what is to be printed after the start, with the rooms that the program has
abbrev pub StartPrints : List ℕ → List ℕ → List ℕ → Stage → List ℕ → Type 0
StartPrints t tables list s xs =
    Prints t (runs_of (read_input t runs_room codes_room) runs_room) (codes_of (read_input t runs_room codes_room) codes_room) tables list s xs

-- From the stage `first` on, with `before` in the list, lines of so many bytes were written; now the stage is s, and the list is `list`.
pub record Along (t runs codes tables before : List ℕ) (first : Stage) (list : List ℕ) (s : Stage) (total : ℕ) : Type 0 where
  pub stands : Stands t runs codes tables list s
  pub done : List ℕ
  pub count : total ≡ length done
  pub rest : (ys : List ℕ) → Prints t runs codes tables list s ys → Prints t runs codes tables before first (done ++ ys)
  pub first_done : (xs : List ℕ) → Prints t runs codes tables before first xs → (ys : List ℕ) × Prints t runs codes tables list s ys × (xs ≡ done ++ ys)
  -- what is left cannot make the number of bytes too large
  pub bound : total + longest_line * left (length t) s ≤ longest_line * most_lines
