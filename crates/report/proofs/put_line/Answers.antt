use native.Mathlib.Omega.{arith}
use Rattle.report.specs.Words.{most_words}
use Rattle.report.specs.TextLinesLaws.{short_line, line_long, line_part}
use borrow.Author.Rules.{rules}
use Rattle.report.proofs.put_line.Goals as goal

pub put_part-requires : goal.put_part-requires
put_part-requires c = let e = line_long c.line_from-from.ensures c.seek-end.ensures.is in
    (omega (arith, e, short_line most_words c.args.n c.args.s.now c.requires.s_value, c.requires.most_words_in_bounds), search rules)

pub returns : goal.returns
returns c = let w = rw (line_part c.line_from-from.ensures c.seek-end.ensures.is) at c.put_part.ensures in record {
  wrote = w;
  upper_bound = omega (arith, w.end, short_line most_words c.args.n c.args.s.now c.requires.s_value);
}
