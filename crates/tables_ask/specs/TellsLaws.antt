-- What the program answers by accepted tables, whoever made them, is said of the timetable's journeys.
use Rattle.std.specs.Prelude.{ℕ, ◌≡◌, refl, List, take, replicate}
use Rattle.std.proofs.Common.{sym, ap, subst, ◌∙◌, arith, take_all}
use Rattle.std.proofs.lemmas.List.{length-replicate}
use Rattle.kinds.specs.Limits.{runs_room, last_minute}
use Rattle.reader.specs.Text.{ReadOutcome, runs_of}
use Rattle.timetable.specs.Numbers.{GoodNumbers}
use Rattle.both.specs.Both.{work_room}
use Rattle.verdict.specs.VerdictLaws.{accepted_tables}
use Rattle.promises.specs.Calls.{Serves}
use Rattle.promises.specs.AcceptedLaws.{accepted_serves}
use Rattle.promises.specs.Printed.{LinesTell}
use Rattle.promises.specs.PrintedLaws.{line_tells}
use Rattle.journey_lines.specs.declared.Sizes.{Sizes}
use Rattle.journey_lines.specs.declared.Stage.TheVariants.{Asks}
use Rattle.journey_lines.specs.Output.{Prints}
use Rattle.journey_lines.specs.OutputLaws.{first_lines, lines_map}
use Rattle.tables_ask.specs.Held.{AcceptedFor, first_turn}

module _ {input runs codes tables : List ℕ} {z : Sizes} (A : AcceptedFor input runs codes tables z) where
  are : runs ≡ A.accepts.read.numbers
  are = A.runs_are ∙ ap (λ (o : ReadOutcome). runs_of o runs_room) A.accepts.whole

  good : GoodNumbers z.given runs
  good = rw (A.accepts.stops, A.accepts.runs, are) (accepted_tables tables _ _ work_room A.accepts.accepted refl).numbers

  serves : Serves z.given runs (take z.tables tables)
  serves =
      subst (Serves z.given runs) (sym (take_all z.tables tables (omega (arith, A.all))))
      (rw (A.accepts.stops, A.accepts.runs, are) (accepted_serves tables _ _ work_room A.accepts.accepted))

  pub answers_tell : (list xs : List ℕ) → Prints input runs codes tables list (Asks z (first_turn z.text)) xs →
      LinesTell (take z.text input) codes z.given runs input z.text xs
  answers_tell list xs P =
      lines_map (λ i e l Q. line_tells (take z.text input) codes good serves work_room (omega arith) (replicate last_minute 0)
      (omega (arith, length-replicate {A = ℕ} last_minute 0)) input i e l Q) (first_lines P)
