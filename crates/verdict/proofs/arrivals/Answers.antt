use native.Mathlib.Omega.{arith}
use Rattle.verdict.specs.MinutesLaws.{walk_label, walk_hub, ins_begin, ins_more, ins_end}
use Rattle.verdict.proofs.arrivals.Goals as goal

pub loop-k-init : goal.loop-k-init
loop-k-init c = ins_begin c.requires.started _ _ c.requires.v_lt_n c.set_at-ins.ensures.0 c.set_at-ins.ensures.1 c.hub_minutes-s.ensures

pub label_at-l-requires : goal.label_at-l-requires
label_at-l-requires c = record { k_bound = walk_label c.loop-k.invariant.walk c.loop-k-test.true c.requires.started.file c.requires.v_lt_n }

pub hub_minutes-requires : goal.hub_minutes-requires
hub_minutes-requires c = let h = walk_hub c.loop-k.invariant.walk c.loop-k-test.true c.requires.started.file c.requires.v_lt_n c.label_at-l.ensures in
    (omega (arith, c.requires.started.file.room.contents.few, h), c.requires.both_room_in_bounds)

pub loop-k-preserved : goal.loop-k-preserved
loop-k-preserved c = ins_more _ _ c.loop-k.invariant c.loop-k-test.true c.requires.started.file c.requires.v_lt_n c.label_at-l.ensures c.hub_minutes.ensures
    c.with_in-s.ensures

pub returns : goal.returns
returns c = ins_end _ _ c.loop-k.invariant c.loop-k-test.false
