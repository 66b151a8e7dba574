use Rattle.report.proofs.put_change.Goals as goal

pub returns-in-Some-clause-wrote : goal.returns-in-Some-clause-wrote
returns-in-Some-clause-wrote c = rw c.in-Some.is c.put_named.ensures.wrote
