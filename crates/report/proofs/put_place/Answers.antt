use Rattle.printed.specs.WroteLaws.{wrote_then}
use Rattle.report.proofs.put_place.Goals as goal

pub returns-in-Gap-clause-wrote : goal.returns-in-Gap-clause-wrote
returns-in-Gap-clause-wrote c = rw c.in-Gap.is (wrote_then c.put_counted-a.ensures.wrote c.put_counted-in-Gap.ensures.wrote)
