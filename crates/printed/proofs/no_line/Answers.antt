use Rattle.printed.specs.Printed.{no_line}
use Rattle.printed.specs.WroteLaws.{wrote_then}
use Rattle.printed.proofs.no_line.Goals as goal

pub returns-clause-wrote : goal.returns-clause-wrote
unfolding no_line
returns-clause-wrote c = wrote_then c.put_part-a.ensures (wrote_then c.put_number-b.ensures.wrote c.put_lf.ensures)
