use Rattle.printed.specs.WroteLaws.{wrote_then}
use Rattle.report.specs.Lines.{entry_line}
use Rattle.report.proofs.entry_line.Goals as goal

pub returns-clause-wrote : goal.returns-clause-wrote
unfolding entry_line
returns-clause-wrote c =
    wrote_then c.put_counted-a.ensures.wrote
    (wrote_then c.put_set-b.ensures.wrote
    (wrote_then c.put_counted-c.ensures.wrote
    (wrote_then c.put_times-d.ensures.wrote
    (wrote_then c.put_pivot-e.ensures.wrote c.put_lf.ensures))))
