use mathlib.Core.Path.{refl, sym, ap, ◌∙◌}
use native.Mathlib.Omega.{arith}
use Rattle.kinds.specs.declared.Refusal.{Refusal}
use Rattle.tables.specs.Judged.{judged_tables}
use Rattle.report.specs.Words.{refusal_line}
use Rattle.desk.specs.Told.{before, by_text, admits, refuses}
use Rattle.desk.specs.ToldLaws.{read_whole, read_bad, whole_few, whole_accepts, whole_spellable, whole_refused}
use Rattle.desk.proofs.admit.Goals as goal

pub returns-in-Err-clause-admit_of : goal.returns-in-Err-clause-admit_of
returns-in-Err-clause-admit_of c = let b = read_bad _ _ _ (sym c.in-Err.is ∙ c.read.ensures.value) in
    refuses _ _ (by_text b.0 b.1 b.2 (ap (λ (x : Refusal). refusal_line (before (judged_tables c.args.tables.now) x)) b.3)) refl c.refuse_text.ensures.wrote

pub overflow_cast-counts : goal.overflow_cast-counts
overflow_cast-counts c = let r = c.read.ensures in
    omega (arith, whole_few (read_whole _ _ _ (sym c.in-Ok.is ∙ r.value) r.runs_after r.codes_after))

pub refuse-requires-clause-spellable : goal.refuse-requires-clause-spellable
refuse-requires-clause-spellable c = let r = c.read.ensures in
    whole_spellable (read_whole _ _ _ (sym c.in-Ok.is ∙ r.value) r.runs_after r.codes_after) _ _ _ c.check.ensures.checked _ c.in-Err-check.is

pub returns-in-Err-check-clause-admit_of : goal.returns-in-Err-check-clause-admit_of
returns-in-Err-check-clause-admit_of c = let r = c.read.ensures in let g = read_whole _ _ _ (sym c.in-Ok.is ∙ r.value) r.runs_after r.codes_after in
    let t = c.refuse.ensures.by_index in
    refuses _ _ (whole_refused g _ _ _ c.check.ensures.checked _ t.0 c.in-Err-check.is t.1) refl t.2

pub returns-clause-admit_of : goal.returns-clause-admit_of
returns-clause-admit_of c = let r = c.read.ensures in
    admits _ (whole_accepts (read_whole _ _ _ (sym c.in-Ok.is ∙ r.value) r.runs_after r.codes_after) _ _ _ c.check.ensures.checked c.in_default.is) refl refl
