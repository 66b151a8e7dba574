use Rattle.asks.proofs.JoinLaws.{turn_own, turn_end, turn_met, turn_none}
use Rattle.asks.proofs.out_turn.Goals as goal

pub returns-then-l-q : goal.returns-then-l-q
returns-then-l-q c = turn_own c.requires.turn.3 c.requires.turn.4 _ _ c.requires.found_in c.if-l-q.true c.take.ensures

pub returns-then-in_to-m : goal.returns-then-in_to-m
returns-then-in_to-m c = turn_end c.requires.turn.3 c.requires.turn.4 c.args.q.criterion c.args.best c.requires.found_in c.if-l-q.false c.if-in_to-m.true

pub returns-then-p-l : goal.returns-then-p-l
returns-then-p-l c = turn_met c.requires.turn.3 c.requires.turn.4 _ _ c.requires.found_in c.if-l-q.false c.label_at-p.ensures c.if-in_to-m.false
    c.if-p-l.true
    c.take-then-p-l.ensures

pub returns : goal.returns
returns c = turn_none c.requires.turn.3 c.requires.turn.4 c.args.q.criterion c.args.best c.requires.found_in c.if-l-q.false c.label_at-p.ensures c.if-p-l.false
