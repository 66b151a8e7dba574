use Rattle.asks.proofs.JoinLaws.{ins_again}
use Rattle.asks.proofs.over_ins.Goals as goal

pub loop-k-preserved : goal.loop-k-preserved
loop-k-preserved c = ins_again c.requires.sets.3 c.args.q.criterion c.loop-k.invariant c.loop-k-test.true c.label_at-l.ensures c.in_turn-found.ensures
