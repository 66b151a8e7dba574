use Rattle.printed.specs.WroteLaws.{wrote_then}
use Rattle.report.specs.Lines.{written_line}
use Rattle.report.proofs.written_line.Goals as goal

pub returns-clause-wrote : goal.returns-clause-wrote
unfolding written_line
returns-clause-wrote c =
    wrote_then c.put_counted-a.ensures.wrote
    (wrote_then c.put_counted-b.ensures.wrote
    (wrote_then c.put_counted-c.ensures.wrote
    (wrote_then c.put_counted-d.ensures.wrote
    (wrote_then c.put_text-e.ensures c.put_lf.ensures))))
