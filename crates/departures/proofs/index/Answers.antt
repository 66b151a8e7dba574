use mathlib.Core.Path.{sym, ◌∙◌}
use native.Mathlib.Omega.{arith}
use Rattle.std.proofs.Common.{length-take-le}
use Rattle.timetable.proofs.SlotsLaws.{service_slots}
use Rattle.departures.specs.Departures.{buckets}
use Rattle.departures.specs.DeparturesLaws.{index_begin, index_more}
use Rattle.departures.proofs.index.Goals as goal

pub slice_bounds-fill-end-2 : goal.slice_bounds-fill-end-2
slice_bounds-fill-end-2 c = sym (length-take-le buckets c.args.index.now (omega arith))

pub loop-k-init : goal.loop-k-init
loop-k-init c = index_begin _ c.args.index.now (c.slots-count.ensures.value ∙ sym (service_slots c.args.day.given c.args.day.runs.now))
    (omega (arith, c.requires)) (c.fill.ensures.after (λ y e. e))

-- slot k is put in before those that follow it: the last slots first, so that for each minute the lowest slot stands first
pub loop-k-preserved : goal.loop-k-preserved
loop-k-preserved c = index_more _ _ c.loop-k.invariant (omega (arith, c.loop-k-test.true))
    (omega (arith, service_slots c.args.day.given c.args.day.runs.now, c.requires)) c.add.ensures
