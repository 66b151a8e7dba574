use mathlib.Core.Logic.{⊎_elim, inl, inr}
use Rattle.tables.specs.File.{label_at}
use Rattle.desk.specs.SpelledLaws.{label_from, label_to, label_pivot, change_in}
use Rattle.desk.proofs.spell_label.Goals as goal

pub code_at-from-requires : goal.code_at-from-requires
code_at-from-requires c = (c.requires.all_named.stop _ (label_from c.requires.good_file.0 c.ends_of-ends.ensures)).listed

pub code_at-to-requires : goal.code_at-to-requires
code_at-to-requires c = (c.requires.all_named.stop _ (label_to c.requires.good_file.0 c.ends_of-ends.ensures)).listed

pub change_of-change-requires : goal.change_of-change-requires
change_of-change-requires c = rw c.label_at-l.ensures (⊎_elim (λ h. inl h) (λ h. inr (c.requires.all_named.stop _ h).listed)
    (label_pivot c.requires.good_file.0 _ c.ends_of-ends.ensures))

pub label_line-requires-clause-code_in : goal.label_line-requires-clause-code_in
label_line-requires-clause-code_in c = (
  rw c.code_at-from.ensures (c.requires.all_named.stop _ (label_from c.requires.good_file.0 c.ends_of-ends.ensures)).code,
  rw c.code_at-to.ensures (c.requires.all_named.stop _ (label_to c.requires.good_file.0 c.ends_of-ends.ensures)).code,
  rw (c.change_of-change.ensures, c.label_at-l.ensures)
      (change_in c.requires.all_named (label_at c.args.tables.now c.args.k).pivot (label_pivot c.requires.good_file.0 _ c.ends_of-ends.ensures)),
)
