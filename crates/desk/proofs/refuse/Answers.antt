use Rattle.printed.specs.WroteLaws.{wrote_then}
use Rattle.desk.proofs.refuse.Goals as goal

pub returns-clause-by_index : goal.returns-clause-by_index
returns-clause-by_index c = (c.spell.ensures.by_index.0, c.spell.ensures.by_index.1, wrote_then c.refusal_line-a.ensures.wrote c.spell.ensures.by_index.2)
