use Rattle.report.proofs.put_set.Goals as goal

pub returns-then-outgoing-clause-wrote : goal.returns-then-outgoing-clause-wrote
returns-then-outgoing-clause-wrote c = rw c.if-outgoing.true c.put_counted.ensures.wrote

pub returns-clause-wrote : goal.returns-clause-wrote
returns-clause-wrote c = rw c.if-outgoing.false c.put_counted-2.ensures.wrote
