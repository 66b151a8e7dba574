use mathlib.Core.Path.{sym, ◌∙◌}
use Rattle.both.specs.BothLaws.{both_good}
use Rattle.verdict.proofs.answer.Goals as goal

pub invariant_of-file : goal.invariant_of-file
invariant_of-file c = record { room = (both_good _ _ _ _ _ (sym c.judge.ensures ∙ c.in_ok-stops.was)).0.file.room }

pub invariant_of-day : goal.invariant_of-day
invariant_of-day c = record { good = (both_good _ _ _ _ _ (sym c.judge.ensures ∙ c.in_ok-stops.was)).0.numbers }

pub mark_all-requires : goal.mark_all-requires
mark_all-requires c =
    let b = both_good _ _ _ _ _ (sym c.judge.ensures ∙ c.in_ok-stops.was) in
    record { both_good = b.0; work_room_in_bounds = b.1 }

pub returns : goal.returns
returns c = rw (sym c.judge.ensures ∙ c.in_ok-stops.was) c.compare.ensures
