use Rattle.printed.specs.WroteLaws.{wrote_then}
use Rattle.report.specs.Lines.{accepted_line}
use Rattle.report.proofs.accepted_line.Goals as goal

pub returns-clause-wrote : goal.returns-clause-wrote
unfolding accepted_line
returns-clause-wrote c = wrote_then c.put_text-a.ensures c.put_lf.ensures
