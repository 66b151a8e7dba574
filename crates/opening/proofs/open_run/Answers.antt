use Rattle.std.proofs.Common.{arith}
use Rattle.std.proofs.lemmas.Grind.{common_steps}
use Rattle.loops.specs.WrittenLaws.{written_one, written_empty}
use Rattle.opening.specs.OpenLaws.{run_listed, run_missing}
use Rattle.opening.proofs.open_run.Goals as goal

pub returns-then-slots-slot : goal.returns-then-slots-slot
returns-then-slots-slot c = λ T. run_missing _ _ c.args.s c.find-slot.ensures c.requires.pivot_value T (omega arith)

pub returns-else-not-is_empty : goal.returns-else-not-is_empty
returns-else-not-is_empty c = λ T. run_listed _ _ c.args.s c.find-slot.ensures c.requires.pivot_value T (omega arith)
    (written_empty _ _ (grind (arith, common_steps)))

pub returns-then-not-is_empty : goal.returns-then-not-is_empty
returns-then-not-is_empty c = λ T. run_listed _ _ c.args.s c.find-slot.ensures c.requires.pivot_value T (omega arith)
    (rw c.slot_run.ensures.value (written_one _ c.args.list.now (grind (arith, common_steps))))
