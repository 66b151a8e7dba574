use Rattle.printed.specs.WroteLaws.{wrote_then}
use Rattle.report.specs.Lines.{numbered_stop}
use Rattle.report.proofs.stop_line.Goals as goal

pub returns-clause-wrote : goal.returns-clause-wrote
unfolding numbered_stop
returns-clause-wrote c =
    wrote_then c.put_counted-a.ensures.wrote
    (wrote_then c.put_named-b.ensures.wrote c.put_lf.ensures)
