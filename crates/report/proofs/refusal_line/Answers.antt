use Rattle.printed.specs.WroteLaws.{wrote_then}
use Rattle.report.specs.Words.{refusal_line}
use Rattle.report.proofs.refusal_line.Goals as goal

pub returns-clause-wrote : goal.returns-clause-wrote
unfolding refusal_line
returns-clause-wrote c =
    let w = wrote_then c.put_counted-a.ensures.wrote
    (wrote_then c.put_place-b.ensures.wrote
    (wrote_then c.put_text-c.ensures
    (wrote_then c.put_words-d.ensures.wrote c.put_lf.ensures))) in
    rw (c.number.ensures, c.number-2.ensures) at w
