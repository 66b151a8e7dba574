use Rattle.opening.specs.Choosing.{HubsTo}
use Rattle.opening.proofs.lowest_hub.Given as goal

abbrev pub invariant-loop-k : goal.invariant-loop-k
invariant-loop-k l =
    HubsTo l.sets.file.bytes.now l.sets.file.stops l.answer.from l.answer.to l.answer.dep l.answer.arr l.out_from l.out_to l.in_from l.in_to l.place l.k
