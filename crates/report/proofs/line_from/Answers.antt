use borrow.Author.Rules.{rules}
use Rattle.report.specs.TextLinesLaws.{seeking_none, seeking_more, seeking_short, seeking_end}
use Rattle.report.proofs.line_from.Goals as goal

pub loop-init : goal.loop-init
loop-init c = seeking_none

pub returns-then-end-s : goal.returns-then-end-s
returns-then-end-s c = seeking_short c.loop.invariant c.loop-test.true c.seek-end.ensures.is c.if-end-s.true

pub loop-preserved : goal.loop-preserved
loop-preserved c = seeking_more c.loop.invariant c.loop-test.true c.seek-end.ensures.is (search rules)

pub returns : goal.returns
returns c = seeking_end c.loop.invariant c.loop-test.false
