use Rattle.std.proofs.Common.{refl, sym}
use Rattle.std.proofs.lemmas.Result.{err_from_is_err_and}
use Rattle.rides.specs.ListsLaws.{asked_good}
use Rattle.rides.proofs.list_asked.Goals as goal

pub invariant_of-day : goal.invariant_of-day
invariant_of-day c = record { good = (asked_good _ _ _ _ _ _ _ _ (sym c.in_ok-q.ensures) _ refl).both.numbers }

pub invariant_of-file : goal.invariant_of-file
invariant_of-file c = record { room = (asked_good _ _ _ _ _ _ _ _ (sym c.in_ok-q.ensures) _ c.stops.ensures).both.file.room }

pub list_best-requires : goal.list_best-requires
list_best-requires c = let A = asked_good _ _ _ _ _ _ _ _ (sym c.in_ok-q.ensures) _ c.stops.ensures in record {
  both_good = A.both;
  work_room_in_bounds = A.room;
  good_ask = A.good;
  list_value = c.requires;
}

pub returns-in_err-q : goal.returns-in_err-q
returns-in_err-q c =
    let p = err_from_is_err_and c.from_residual.result c.from_residual.ensures.1 in
    rw (sym c.in_err-q.ensures, p.1, p.2) (refl, c.requires)

pub returns : goal.returns
returns c = rw (sym c.in_ok-q.ensures) c.list_best.ensures
