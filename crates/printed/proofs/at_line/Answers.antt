use Rattle.printed.specs.Printed.{at_line}
use Rattle.printed.specs.WroteLaws.{wrote_then}
use Rattle.printed.proofs.at_line.Goals as goal

pub returns-clause-wrote : goal.returns-clause-wrote
unfolding at_line
returns-clause-wrote c =
    let numbers = wrote_then c.put_number-c.ensures.wrote (wrote_then c.put_number-d.ensures.wrote c.put_lf.ensures) in
    wrote_then c.put_part-a.ensures (wrote_then c.put_number-b.ensures.wrote numbers)
