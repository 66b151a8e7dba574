use Rattle.tables.specs.TablesLaws.{good_tables}
use Rattle.label_sets.specs.SetsLaws.{no_meeting}
use Rattle.label_sets.proofs.LabelSets.halves.Goals as goal

pub returns-then-y-x : goal.returns-then-y-x
returns-then-y-x c = no_meeting c.args.s c.in_ok-x.ensures c.in_ok-y.ensures (good_tables c.requires.good) c.if-y-x.true
