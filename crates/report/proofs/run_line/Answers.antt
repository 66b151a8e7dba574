use Rattle.printed.specs.WroteLaws.{wrote_then}
use Rattle.report.specs.Lines.{numbered_run}
use Rattle.report.proofs.run_line.Goals as goal

pub returns-clause-wrote : goal.returns-clause-wrote
unfolding numbered_run
returns-clause-wrote c =
    wrote_then c.put_counted-a.ensures.wrote
    (wrote_then c.put_named-b.ensures.wrote
    (wrote_then c.put_code-c.ensures.wrote
    (wrote_then c.put_run_numbers-d.ensures.wrote c.put_lf.ensures)))
