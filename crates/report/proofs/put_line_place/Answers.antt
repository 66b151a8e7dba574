use borrow.Author.Tests.{ne_eqb}
use Rattle.printed.specs.WroteLaws.{wrote_then}
use Rattle.report.proofs.put_line_place.Goals as goal

pub returns-clause-wrote : goal.returns-clause-wrote
returns-clause-wrote c = rw (ne_eqb _ 0 c.if-place-eq0.false) (wrote_then c.put_counted-a.ensures.wrote c.put_text.ensures)
