use Rattle.loops.specs.HalvedLaws.{halved_end}
use Rattle.label_sets.specs.SetsLaws.{set_rises}
use Rattle.label_sets.proofs.place_in.Goals as goal

pub returns : goal.returns
returns c = λ side s A. halved_end c.loop-low.invariant c.loop-low-test.false (set_rises c.args.m A)
