use mathlib.Core.Path.{refl}
use Rattle.report.specs.WordsLaws.{table_words}
use borrow.Author.Rules.{rules}
use Rattle.report.proofs.put_words.Goals as goal

pub put_line-requires : goal.put_line-requires
put_line-requires c = record { most_words_in_bounds = search rules; s_value = refl }

pub returns-clause-wrote : goal.returns-clause-wrote
returns-clause-wrote c = rw table_words at c.put_line.ensures.wrote
