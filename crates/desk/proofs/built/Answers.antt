use mathlib.Core.Path.{refl, sym, ◌∙◌}
use Rattle.loops.specs.ZeroLaws.{zeros_is}
use Rattle.desk.specs.Told.{bad_text, bad_build, built}
use Rattle.desk.specs.ToldLaws.{read_whole, read_bad, whole_build, whole_written}
use Rattle.desk.proofs.built.Goals as goal

pub returns-in-Err-clause-build_told : goal.returns-in-Err-clause-build_told
returns-in-Err-clause-build_told c = let b = read_bad _ _ _ (sym c.in-Err.is ∙ c.read.ensures.value) in
    bad_text b.0 b.1 _ b.2 (c.zero.ensures ∙ zeros_is _) refl (rw b.3 at c.refusal_line.ensures.wrote)

pub returns-in-Err-build-clause-build_told : goal.returns-in-Err-build-clause-build_told
returns-in-Err-build-clause-build_told c = let r = c.read.ensures in let g = read_whole _ _ _ (sym c.in-Ok.is ∙ r.value) r.runs_after r.codes_after in
    bad_build g.read _ _ g.whole (whole_build g c.build.ensures.build_of c.in-Err-build.is) refl c.refusal_line-in-Err-build.ensures.wrote

pub returns-in-Ok-build-clause-build_told : goal.returns-in-Ok-build-clause-build_told
returns-in-Ok-build-clause-build_told c = let r = c.read.ensures in let g = read_whole _ _ _ (sym c.in-Ok.is ∙ r.value) r.runs_after r.codes_after in
    built g.read _ _ _ g.whole (whole_build g c.build.ensures.build_of c.in-Ok-build.is) refl (rw (whole_written g) at c.written_line-told.ensures.wrote)
