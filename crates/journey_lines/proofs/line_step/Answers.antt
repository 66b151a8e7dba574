use native.Mathlib.Omega.{arith}
use Rattle.askline.specs.InputLaws.{line_within}
use Rattle.journey_lines.specs.Steps.{line}
use Rattle.journey_lines.proofs.line_step.Goals as goal

pub invariant_of-line : goal.invariant_of-line
invariant_of-line c = let w = line_within _ _ _ c.requires.at_value in record { low = w.0; high = omega (arith, w.1) }

pub answer-answer-requires : goal.answer-answer-requires
answer-answer-requires c = record { placed = c.requires.ready.read.placed }

pub turn_after-turn-requires : goal.turn_after-turn-requires
turn_after-turn-requires c = omega (arith, (line_within _ _ _ c.requires.at_value).1, c.requires.ready.short)

pub returns : goal.returns
returns c = line c.args.end c.answer-answer.result c.requires.rides_le_ride c.requires.at_value c.answer-answer.ensures.line_gets
    (record { bytes = c.head-bytes.result; wrote = c.head-bytes.ensures.wrote; short = c.head-bytes.ensures.upper_bound; is = rw c.turn_after-turn.ensures })
