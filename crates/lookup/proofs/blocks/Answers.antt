use Rattle.lookup.specs.MarkLaws.{mixing_none, mixing_more}
use Rattle.lookup.proofs.blocks.Goals as goal

pub loop-i-init : goal.loop-i-init
loop-i-init c = mixing_none _ _ _ _ c.requires.0

pub loop-i-preserved : goal.loop-i-preserved
loop-i-preserved c = mixing_more c.loop-i.invariant c.loop-i-test.true c.word.ensures.0 c.word-in-loop-i.ensures.0 c.mixed-m.ensures.0 c.mixed-m.ensures.1
