use lib.Seq.{take-length}
use Rattle.printed.specs.WroteLaws.{wrote_then}
use Rattle.files.proofs.part_name.Goals as goal

pub returns-clause-wrote : goal.returns-clause-wrote
returns-clause-wrote c =
    wrote_then (rw take-length at c.put_part-a.ensures) (wrote_then c.put_part-b.ensures c.put_two.ensures)
