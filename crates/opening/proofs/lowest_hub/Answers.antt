use Rattle.opening.specs.ChooseLaws.{hubs_begin, hubs_again, hub-found, hubs_done}
use Rattle.opening.proofs.lowest_hub.Goals as goal

pub loop-k-init : goal.loop-k-init
loop-k-init c =
    hubs_begin (record { file = c.requires.good; long = c.args.sets.long; are = c.args.sets.are }) c.requires.two_stops c.args.answer.dep c.args.answer.arr
    c.start_at-out_from.ensures c.start_at-out_to.ensures c.start_at-in_from.ensures c.start_at-in_to.ensures

pub returns-then-joins : goal.returns-then-joins
returns-then-joins c = hub-found c.loop-k.invariant c.loop-k-test.true c.label_at-l.ensures c.seek-place.ensures c.joins.ensures c.if-joins.true

pub loop-k-preserved : goal.loop-k-preserved
loop-k-preserved c = hubs_again c.loop-k.invariant c.loop-k-test.true c.label_at-l.ensures c.seek-place.ensures c.joins.ensures c.if-joins.false

pub returns : goal.returns
returns c = hubs_done c.loop-k.invariant c.loop-k-test.false
