use borrow.Author.Rules.{rules}
use native.Mathlib.Omega.{arith}
use Rattle.verdict.specs.MinutesLaws.{kept_set, kept_then, walk_label, walk_hub, outs_begin, outs_more, outs_end}
use Rattle.verdict.proofs.reach.Goals as goal

pub loop-k-init : goal.loop-k-init
loop-k-init c = outs_begin c.requires.started c.requires.u_lt_n (search rules) c.requires.starts_room_le_at.1 c.set_at-outs.ensures.0 c.set_at-outs.ensures.1
    c.clear.ensures

pub label_at-l-requires : goal.label_at-l-requires
label_at-l-requires c = record { k_bound = walk_label c.loop-k.invariant.walk c.loop-k-test.true c.requires.started.file c.requires.u_lt_n }

pub relax-requires : goal.relax-requires
relax-requires c = omega (
  arith,
  walk_hub c.loop-k.invariant.walk c.loop-k-test.true c.requires.started.file c.requires.u_lt_n c.label_at-l.ensures,
  c.loop-k.invariant.long,
)

pub loop-k-preserved : goal.loop-k-preserved
loop-k-preserved c = outs_more c.loop-k.invariant c.loop-k-test.true c.requires.started.file c.requires.u_lt_n c.label_at-l.ensures c.relax.ensures

pub returns : goal.returns
returns c = record {
  reached = outs_end c.loop-k.invariant c.loop-k-test.false;
  same_before = kept_then (omega arith) (kept_set _ _ (omega arith) c.clear.ensures.kept) c.loop-k.invariant.kept;
}
