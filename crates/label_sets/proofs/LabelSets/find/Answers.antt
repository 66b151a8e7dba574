use Rattle.std.proofs.Common.{refl}
use Rattle.journeys.specs.Tables.{outs, ins}
use Rattle.tables.specs.TablesLaws.{good_tables}
use Rattle.label_sets.specs.SetsLaws.{of_outs, of_ins}
use Rattle.label_sets.proofs.LabelSets.find.Goals as goal

pub returns-then-v-u : goal.returns-then-v-u
returns-then-v-u c =
    of_outs (good_tables c.requires.good) c.args.m _ c.if-v-u.true (c.find_in.ensures outs c.args.u c.requires.two_stops.0 refl)

pub returns-else-v-u : goal.returns-else-v-u
returns-else-v-u c =
    of_ins (good_tables c.requires.good) c.args.m _ c.if-v-u.false (c.find_in-else-v-u.ensures ins c.args.v c.requires.two_stops.1 refl)
