use mathlib.Core.Path.{refl}
use Rattle.printed.specs.WroteLaws.{wrote_then}
use Rattle.desk.specs.Spelled.{a_gap}
use Rattle.desk.proofs.spell.Goals as goal

pub returns-in-Gap-clause-by_index : goal.returns-in-Gap-clause-by_index
returns-in-Gap-clause-by_index c = (_, a_gap c.in-Gap.is refl, wrote_then c.spell_run-a.ensures.wrote c.spell_stop.ensures.wrote)
