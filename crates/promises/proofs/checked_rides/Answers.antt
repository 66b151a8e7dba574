use Rattle.std.proofs.Common.{refl, ap, ◌∙◌, length}
use Rattle.loops.specs.Zero.{zeros}
use Rattle.loops.specs.ZeroLaws.{length-zeros}
use Rattle.promises.specs.AcceptedLaws.{rides_accepted, rides_refused, zeros_again}
use Rattle.promises.proofs.checked_rides.Goals as goal

pub returns-in-Ok : goal.returns-in-Ok
returns-in-Ok c = record {
  checked_rides = rides_accepted _ _ _ _ _ _ _ c.in-Ok.ensures.checked _ refl
      (ap length c.in-Ok.ensures.work_after ∙ length-zeros _) _ _ c.answered.ensures.lists;
  work_after = c.answered.ensures.work_after ∙ ap zeros c.in-Ok.ensures.work_after ∙ zeros_again _;
}

pub returns-in-Err : goal.returns-in-Err
returns-in-Err c = record {
  checked_rides = rides_refused _ _ _ _ _ _ _ c.in-Err.ensures.checked _ refl c.zero.ensures;
  work_after = c.in-Err.ensures.work_after;
}
