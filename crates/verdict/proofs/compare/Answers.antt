use mathlib.Core.Path.{refl, ap}
use native.Mathlib.Omega.{arith}
use Rattle.timetable.proofs.SlotsLaws.{service_slots, slots_few}
use Rattle.label_sets.specs.StartsLaws.{labels_read_lem}
use Rattle.verdict.specs.GapLaws.{told_none}
use Rattle.verdict.specs.Verdict.{unsupported_at, gap_at, all_well}
use Rattle.verdict.specs.VerdictLaws.{all_supported, first_unsupported, gap_first}
use Rattle.verdict.proofs.compare.Goals as goal
use Rattle.std.specs.Prelude.{Err}

pub returns-then-k-start_at : goal.returns-then-k-start_at
returns-then-k-start_at c = let e = labels_read_lem c.requires.started c.start_at.ensures in
    unsupported_at _ (first_unsupported c.requires.started.file c.first_unsupported-k.ensures (omega (arith, e, c.if-k-start_at.true))) (ap Err c.new.ensures)

pub slot_run-requires : goal.slot_run-requires
slot_run-requires c = omega (arith, c.in-Some.ensures.slot, service_slots c.args.day.given c.args.day.runs.now, slots_few c.requires.both.numbers)

pub returns-in-Some : goal.returns-in-Some
returns-in-Some c =
    let e = labels_read_lem c.requires.started c.start_at.ensures in
    let s = all_supported c.requires.started.file c.first_unsupported-k.ensures (omega (arith, e, c.if-k-start_at.false)) in
    gap_at _ _ (gap_first s c.in-Some.ensures) (ap Err (rw c.slot_run.ensures.value refl))

pub returns : goal.returns
returns c =
    let e = labels_read_lem c.requires.started c.start_at.ensures in
    all_well (record {
      supported = all_supported c.requires.started.file c.first_unsupported-k.ensures (omega (arith, e, c.if-k-start_at.false));
      no_gaps = told_none c.first_gap.ensures c.in_default.is;
    }) refl
