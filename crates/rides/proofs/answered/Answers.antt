use Rattle.rides.specs.ListsLaws.{lists_lent}
use Rattle.rides.proofs.answered.Goals as goal

-- the list was zeroed first
pub returns-clause-lists : goal.returns-clause-lists
returns-clause-lists c = lists_lent _ _ _ _ _ _ _ c.zero.auto.s c.list_asked-answer.ensures
