use Rattle.printed.specs.WroteLaws.{wrote_then}
use Rattle.desk.specs.SpelledLaws.{bad_owned}
use Rattle.desk.proofs.spell_bad.Goals as goal

pub returns-then-whose-n-clause-by_index : goal.returns-then-whose-n-clause-by_index
returns-then-whose-n-clause-by_index c = let w = rw (c.pivot_of-pivot.ensures, c.label_at-l.ensures) at c.entry_line-a.ensures.wrote in
    (_, bad_owned c.set_of-whose.result.outgoing c.set_of-whose.ensures c.if-whose-n.true, wrote_then w c.spell_stop.ensures.wrote)
