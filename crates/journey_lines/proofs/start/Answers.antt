use mathlib.Core.Path.{refl, sym, ◌∙◌}
use Rattle.loops.specs.ZeroLaws.{zeros_is}
use Rattle.journey_lines.specs.Output.{unread}
use Rattle.journey_lines.specs.InputLaws.{start_unbuilt, start_built}
use Rattle.journey_lines.proofs.start.Goals as goal

pub returns-in-Err-clause-start_of : goal.returns-in-Err-clause-start_of
returns-in-Err-clause-start_of c = unread _ (sym c.read_input.ensures.value ∙ c.in-Err.is) refl (c.zero.ensures ∙ zeros_is _)

pub returns-in-Err-build-clause-start_of : goal.returns-in-Err-build-clause-start_of
returns-in-Err-build-clause-start_of c = let r = c.read_input.ensures in
    start_unbuilt _ _ _ r.value _ c.in-Ok.is r.runs_after c.build.ensures.build_of _ c.in-Err-build.is

pub returns-in-Ok-build-clause-start_of : goal.returns-in-Ok-build-clause-start_of
returns-in-Ok-build-clause-start_of c = let r = c.read_input.ensures in
    rw c.new.ensures (start_built _ _ _ r.value _ c.in-Ok.is r.runs_after c.build.ensures.build_of _ _ c.in-Ok-build.is _ c.timetable_end-text.ensures)
