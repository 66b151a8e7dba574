use Rattle.printed.specs.WroteLaws.{wrote_then}
use Rattle.report.proofs.put_run_numbers.Goals as goal

pub returns-clause-wrote : goal.returns-clause-wrote
returns-clause-wrote c =
    wrote_then c.put_number-a.ensures.wrote
    (wrote_then c.put_number-b.ensures.wrote c.put_number.ensures.wrote)
