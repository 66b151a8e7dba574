use Rattle.tables.specs.TablesLaws.{good_tables}
use Rattle.opening.specs.ChooseLaws.{way_label, way-hub}
use Rattle.label_sets.specs.SetsLaws.{other_label, no_label_at}
use Rattle.opening.proofs.way_of.Goals as goal
use Rattle.opening.proofs.way_of.Goals.{in-Some+else-l-answer, in_default}

pub returns-then-l-answer : goal.returns-then-l-answer
returns-then-l-answer c = way_label c.in-Some.ensures c.if-l-answer.true

pub returns : goal.returns
returns c =
    way-hub (elim c.match-find.branch [
      | in-Some+else-l-answer w ↦ other_label (good_tables c.requires.good) w.in-Some.ensures w.if-l-answer.false
      | in_default w ↦ no_label_at w.in_default.ensures
    ]) _ c.lowest_hub.ensures
