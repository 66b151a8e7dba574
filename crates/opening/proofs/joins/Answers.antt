use Rattle.std.proofs.Common.{arith}
use Rattle.std.proofs.lemmas.Bool.Decides.{nat_tests}
use Rattle.tables.specs.TablesLaws.{read_as}
use Rattle.opening.specs.ChooseLaws.{joins_told}
use Rattle.opening.proofs.joins.Goals as goal
use Rattle.opening.proofs.joins.Goals.{then-m-l, else-m-l}

pub returns-then-m-a : goal.returns-then-m-a
returns-then-m-a c = joins_told (read_as _ _ c.label_at-m.ensures) c.if-l-d.false c.if-to-place.false (grind (arith, nat_tests))

pub returns-else-m-a : goal.returns-else-m-a
returns-else-m-a c = joins_told (read_as _ _ c.label_at-m.ensures) c.if-l-d.false c.if-to-place.false
    (elim c.if-m-l.branch [ then-m-l w ↦ grind (arith, nat_tests) | else-m-l w ↦ grind (arith, nat_tests) ])
