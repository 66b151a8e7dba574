use Rattle.printed.specs.WroteLaws.{wrote_then}
use Rattle.report.specs.Lines.{more_line}
use Rattle.report.proofs.more_line.Goals as goal

pub returns-clause-wrote : goal.returns-clause-wrote
unfolding more_line
returns-clause-wrote c =
    wrote_then c.put_text-a.ensures
    (wrote_then c.put_counted-b.ensures.wrote
    (wrote_then c.put_text-c.ensures c.put_lf.ensures))
