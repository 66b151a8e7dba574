-- From what is to be printed after the start to the output for the input.
use Rattle.std.specs.Prelude.{ℕ, ◌≡◌, List, Err, Ok, Result}
use Rattle.std.proofs.Common.{sym, subst₂}
use Rattle.kinds.specs.Limits.{runs_room, codes_room}
use Rattle.tables.specs.File.{file_room, AreBytes}
use Rattle.reader.specs.Text.{runs_of, codes_of}
use Rattle.builder.specs.Build.{build_room}
use Rattle.journey_lines.specs.declared.Stage.{Stage}
use Rattle.journey_lines.specs.Output.{read_input, StartOf, Prints}
use Rattle.journey_lines.specs.OutputLaws.{start_output, output_start}
use Rattle.sending.specs.Sent.{SentFrom}
use Rattle.journey.specs.Sent.{SentFor}
use Rattle.handing.specs.declared.Written.{Written}
use Rattle.handing.specs.declared.Failure.{Failure}

pub sent_for : (t runs codes tables list : List ℕ) (s : Stage) (r : Result Written Failure) →
    StartOf t runs_room codes_room build_room file_room tables s → AreBytes tables →
    runs ≡ runs_of (read_input t runs_room codes_room) runs_room → codes ≡ codes_of (read_input t runs_room codes_room) codes_room →
    SentFrom t runs codes tables list s r → SentFor t r
sent_for t runs codes tables list s (Ok w) S bytes er ec P =
    (P.0, start_output t tables list s S bytes P.0 (subst₂ (λ (i j : List ℕ). Prints t i j tables list s P.0) er ec P.1), P.2)
sent_for t runs codes tables list s (Err f) S bytes er ec P =
    record {
      some = P.some;
      due = λ xs O. P.due xs (subst₂ (λ (i j : List ℕ). Prints t i j tables list s xs) (sym er) (sym ec) (output_start t tables list s S bytes xs O));
    }
