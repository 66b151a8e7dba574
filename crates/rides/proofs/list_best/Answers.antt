use Rattle.std.proofs.Common.{arith, ◌≡◌}
use Rattle.std.proofs.lemmas.Result.{err_from_is_err_and}
use Rattle.kinds.specs.Refusals.{refusal}
use Rattle.kinds.specs.declared.Reason.TheVariants as reason
use Rattle.rides.specs.Lists.{without_journey}
use Rattle.rides.proofs.list_best.Goals as goal

pub list_pair-requires-clause-best : goal.list_pair-requires-clause-best
list_pair-requires-clause-best c = rw c.in_ok-j.ensures.ok_part at c.best_sketch.ensures

pub returns-in_err-j : goal.returns-in_err-j
returns-in_err-j c =
    let N = rw c.in_err-j.ensures.ok_part at c.best_sketch.ensures in
    let p = err_from_is_err_and c.from_residual.result c.from_residual.ensures.1 in
    let e : p.0 ≡ refusal reason.NoJourney 0 = grind arith in
    rw p.1 (without_journey e N, c.requires.list_value)
