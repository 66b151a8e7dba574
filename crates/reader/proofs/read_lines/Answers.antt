use mathlib.Core.Path.{refl, sym, ◌∙◌}
use native.Mathlib.Omega.{arith}
use Rattle.lookup.specs.LookupLaws.{named_none}
use Rattle.lines.specs.LinesLaws.{stop_known}
use Rattle.reader.specs.ReadingLaws.{reading_unfinished, reading_bad, reading_after, reading_whole}
use Rattle.reader.proofs.read_lines.Goals as goal

pub returns-then-text-end : goal.returns-then-text-end
returns-then-text-end c =
    let e = reading_unfinished c.loop-from.invariant _ c.seek-end.ensures.is c.if-text-end.true in
    record { value = rw e (cc); filled_for = rw e tt }

pub enter-requires-clause-enterable : goal.enter-requires-clause-enterable
enter-requires-clause-enterable c =
    let said = rw c.in-Ok-Stop.field-0-is at (sym c.line_at.ensures ∙ c.in-Ok-Stop.is) in
    let fine = stop_known _ _ _ _ _ _ _ c.seek-end.ensures.low said in
    record {
      few = fine.few;
      room = omega (arith, fine.few, c.loop-from.invariant.codes_same, c.requires.codes_long);
      within = omega (arith, fine.ends, c.seek-end.ensures.high);
      short = c.requires.short;
      new = named_none _ _ _ _ _ _ fine.new;
    }

pub returns-then-end-text : goal.returns-then-end-text
returns-then-end-text c =
    let said = rw c.in-Ok-End.field-0-is at (sym c.line_at.ensures ∙ c.in-Ok-End.is) in
    let e = reading_after c.loop-from.invariant _ c.seek-end.ensures.is c.if-text-end.false said c.if-end-text.true in
    record { value = rw e (cc); filled_for = rw e tt }

pub returns-in-Ok-End : goal.returns-in-Ok-End
returns-in-Ok-End c =
    let said = rw c.in-Ok-End.field-0-is at (sym c.line_at.ensures ∙ c.in-Ok-End.is) in
    let e = reading_whole c.loop-from.invariant _ c.seek-end.ensures.is c.if-text-end.false said c.if-end-text.false in
    record { value = rw e refl; filled_for = rw e (refl, refl) }

pub returns-in-Err : goal.returns-in-Err
returns-in-Err c =
    let e = reading_bad c.loop-from.invariant _ c.seek-end.ensures.is c.if-text-end.false _ (sym c.line_at.ensures ∙ c.in-Err.is) in
    record { value = rw e (cc); filled_for = rw e tt }
