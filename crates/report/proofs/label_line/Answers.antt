use Rattle.printed.specs.WroteLaws.{wrote_then}
use Rattle.report.specs.Lines.{label_line}
use Rattle.report.proofs.label_line.Goals as goal

pub returns-clause-wrote : goal.returns-clause-wrote
unfolding label_line
returns-clause-wrote c =
    wrote_then c.put_counted-a.ensures.wrote
    (wrote_then c.put_named-b.ensures.wrote
    (wrote_then c.put_named-c.ensures.wrote
    (wrote_then c.put_times-d.ensures.wrote
    (wrote_then c.put_change-e.ensures.wrote c.put_lf.ensures))))
