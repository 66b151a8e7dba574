use Rattle.printed.specs.WroteLaws.{wrote_then}
use Rattle.report.proofs.put_counted.Goals as goal

pub returns-clause-wrote : goal.returns-clause-wrote
returns-clause-wrote c = wrote_then c.put_text-a.ensures c.put_number.ensures.wrote
