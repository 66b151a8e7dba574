use Rattle.asks.proofs.JoinLaws.{out_turn_at, outs_again}
use Rattle.asks.proofs.over_outs.Goals as goal

-- the partner of out-label k leaves at or after
-- the label arrives, by the same hub
pub out_turn-best-requires-clause-turn : goal.out_turn-best-requires-clause-turn
out_turn-best-requires-clause-turn c =
    (_, _, _, c.requires, out_turn_at c.requires c.args.q.criterion c.loop-k.invariant c.loop-k-test.true c.label_at-l.ensures c.seek-next.ensures)

pub loop-k-preserved : goal.loop-k-preserved
loop-k-preserved c =
    let t = out_turn_at c.requires c.args.q.criterion c.loop-k.invariant c.loop-k-test.true c.label_at-l.ensures c.seek-next.ensures in
    outs_again c.requires c.args.q.criterion c.loop-k.invariant t c.out_turn-best.ensures
