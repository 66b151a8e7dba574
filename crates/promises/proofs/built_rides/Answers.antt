use Rattle.std.proofs.Common.{refl, sym, rules, ap, length, ◌∙◌}
use Rattle.loops.specs.Zero.{zeros}
use Rattle.loops.specs.ZeroLaws.{length-zeros}
use Rattle.promises.specs.AcceptedLaws.{zeros_again}
use Rattle.promises.specs.BuiltLaws.{rides_built, rides_refused, refused_zero, rides_left_refused, rides_left_answered}
use Rattle.promises.proofs.built_rides.Goals as goal

pub returns-then-is_err : goal.returns-then-is_err
returns-then-is_err c = record {
  built_rides = rides_built _ _ _ _ c.in-Ok.ensures.build_of (λ i. search rules) _ _ _ refl
      (ap length c.in-Ok.ensures.work_after ∙ length-zeros _) _ _ refl c.answered-asked.ensures.lists
      (c.zero.ensures ∙ rides_left_refused _ _ (sym c.is_err.ensures.value ∙ c.if-is_err.true));
  work_after = c.answered-asked.ensures.work_after ∙ ap zeros c.in-Ok.ensures.work_after ∙ zeros_again _;
}

pub returns-else-is_err : goal.returns-else-is_err
returns-else-is_err c = record {
  built_rides = rides_built _ _ _ _ c.in-Ok.ensures.build_of (λ i. search rules) _ _ _ refl
      (ap length c.in-Ok.ensures.work_after ∙ length-zeros _) _ _ refl c.answered-asked.ensures.lists
      (rides_left_answered _ _ (sym c.is_err.ensures.value ∙ c.if-is_err.false));
  work_after = c.answered-asked.ensures.work_after ∙ ap zeros c.in-Ok.ensures.work_after ∙ zeros_again _;
}

pub returns-in-Err : goal.returns-in-Err
returns-in-Err c = record {
  built_rides = rides_refused _ _ _ _ c.in-Err.ensures.build_of (λ i. search rules) _ _ _ refl c.zero-in-Err.ensures
      (refused_zero c.in-Err.ensures.build_of refl);
  work_after = c.in-Err.ensures.work_after;
}
