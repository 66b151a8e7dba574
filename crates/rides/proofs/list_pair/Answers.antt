use Rattle.std.proofs.Common.{◌∙◌, arith, ◌≡◌}
use Rattle.std.proofs.lemmas.Result.{err_from_is_err_and}
use Rattle.loops.specs.ZeroLaws.{zeros_as}
use Rattle.tables.specs.TablesLaws.{good_tables}
use Rattle.kinds.specs.Refusals.{refusal}
use Rattle.kinds.specs.declared.Reason.TheVariants as reason
use Rattle.rides.specs.Lists.{missing, short}
use Rattle.rides.specs.ListsLaws.{few_rides, listed_of}
use Rattle.rides.proofs.list_pair.Goals as goal

pub returns-in_err-k : goal.returns-in_err-k
returns-in_err-k c =
    let M = rw c.in_err-k.ensures.ok_part at c.open_answer-opened.ensures in
    let p = err_from_is_err_and c.from_residual.result c.from_residual.ensures.1 in
    let e : p.0 ≡ refusal reason.RidesMissing 0 = grind arith in
    rw p.1 (missing e _ _ c.requires.best M.0, M.1)

pub returns-then-list-k : goal.returns-then-list-k
returns-then-list-k c = let L = rw c.in_ok-k.ensures.ok_part at c.open_answer-opened.ensures in (
  short c.into.ensures _ _ c.requires.best L.rides L.are (omega (arith, L.count)),
  zeros_as _ _ c.zero.ensures (c.zero.auto.s ∙ c.open_answer-opened.auto.list),
)

pub overflow_cast-result : goal.overflow_cast-result
overflow_cast-result c = let L = rw c.in_ok-k.ensures.ok_part at c.open_answer-opened.ensures in
    omega (arith, L.count, few_rides _ _ c.args.q (good_tables c.requires.ground.started.file) c.requires.best L.are)

pub returns : goal.returns
returns c = let L = rw c.in_ok-k.ensures.ok_part at c.open_answer-opened.ensures in
    listed_of _ _ c.args.q c.requires.best c.requires.list_value L (omega arith)
