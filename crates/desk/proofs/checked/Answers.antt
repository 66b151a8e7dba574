use Rattle.report.specs.Lines.{accepted_line}
use Rattle.desk.specs.ToldLaws.{told_refused, told_accepted}
use Rattle.desk.proofs.checked.Goals as goal

pub returns-in-Err-clause-by_index : goal.returns-in-Err-clause-by_index
returns-in-Err-clause-by_index c = told_refused c.admit.ensures.admit_of c.in-Err.is

pub returns-in-Ok-clause-by_index : goal.returns-in-Ok-clause-by_index
returns-in-Ok-clause-by_index c = let t = told_accepted c.admit.ensures.admit_of c.in-Ok.is in
    (accepted_line, t.0, rw t.1 at c.accepted_line.ensures.wrote)
