use Rattle.std.proofs.Common.{sym, ◌∙◌, arith}
use Rattle.lookup.specs.IndexLaws.{finding_none, finding_more}
use Rattle.lookup.proofs.Known.walk.Goals as goal

pub loop-init : goal.loop-init
loop-init c = finding_none _ _ _ _ _ _ _ c.mark-m.ensures.1

pub loop-preserved : goal.loop-preserved
loop-preserved c =
    let other = sym c.is_entry.ensures ∙ c.if-is_entry.false in
    finding_more c.loop.invariant c.loop-test.true c.place-p.ensures.0 (omega arith) other c.onward-x.ensures.0 c.onward-x.ensures.1
