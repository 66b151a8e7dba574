use Rattle.opening.specs.ChooseLaws.{none_chosen, way_in, chosen_opened}
use Rattle.opening.proofs.open_chosen.Goals as goal

pub returns-in_err-pivot : goal.returns-in_err-pivot
returns-in_err-pivot c = rw c.from_residual.ensures (none_chosen c.in_err-pivot.ensures)

pub open_span-requires-clause-span_in : goal.open_span-requires-clause-span_in
open_span-requires-clause-span_in c = way_in c.requires.ground.started c.requires.two_stops c.in_ok-pivot.ensures

pub returns : goal.returns
returns c = chosen_opened c.requires.ground.started _ c.in_ok-pivot.ensures _ _ _ c.open_span.ensures
