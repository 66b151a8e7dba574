use Rattle.printed.specs.WroteLaws.{wrote_then}
use Rattle.report.proofs.put_times.Goals as goal

pub returns-clause-wrote : goal.returns-clause-wrote
returns-clause-wrote c = wrote_then c.put_counted-a.ensures.wrote c.put_counted.ensures.wrote
