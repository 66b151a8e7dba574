use Rattle.printed.specs.Printed.{ride_line}
use Rattle.printed.specs.WroteLaws.{wrote_then}
use Rattle.printed.proofs.ride_line.Goals as goal

pub returns-clause-wrote : goal.returns-clause-wrote
unfolding ride_line
returns-clause-wrote c =
    let numbers = wrote_then c.put_number-e.ensures.wrote (wrote_then c.put_number-f.ensures.wrote c.put_lf.ensures) in
    let codes = wrote_then c.put_code-c.ensures.wrote (wrote_then c.put_number-d.ensures.wrote numbers) in
    wrote_then c.put_part-a.ensures (wrote_then c.put_code-b.ensures.wrote codes)
