use Rattle.std.proofs.Common.{refl}
use Rattle.promises.specs.AcceptedLaws.{after_accepted}
use Rattle.promises.proofs.checked_ask.Goals as goal

pub returns-clause-checked_ask : goal.returns-clause-checked_ask
returns-clause-checked_ask c = after_accepted _ _ _ _ _ _ _ c.in_ok-check.ensures.checked refl _ c.answered.ensures
