use Rattle.printed.specs.Printed.{no_place_line}
use Rattle.printed.specs.WroteLaws.{wrote_then}
use Rattle.printed.proofs.no_place_line.Goals as goal

pub returns-clause-wrote : goal.returns-clause-wrote
unfolding no_place_line
returns-clause-wrote c =
    let place = wrote_then c.put_number-c.ensures.wrote c.put_lf.ensures in
    wrote_then c.put_part-a.ensures (wrote_then c.put_number-b.ensures.wrote place)
