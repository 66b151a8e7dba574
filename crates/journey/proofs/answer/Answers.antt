use Rattle.std.proofs.Common.{refl, sym, arith}
use Rattle.journey_lines.specs.OutputLaws.{start_stands}
use Rattle.journey.specs.SentLaws.{sent_for}
use Rattle.journey.proofs.answer.Goals as goal

pub print-requires-clause-stands : goal.print-requires-clause-stands
print-requires-clause-stands c =
    let s = c.start-first in
    start_stands _ _ _ _ _ _ _ s.ensures.start_of s.ensures.runs_after s.ensures.codes_after (omega arith) (sym s.auto.tables) _ refl

pub returns : goal.returns
returns c =
    let s = c.start-first.ensures in
    sent_for _ _ _ _ _ _ c.print.result s.start_of s.are_bytes s.runs_after s.codes_after c.print.ensures
