use Rattle.std.proofs.Common.{◌∙◌, refl, ap, arith}
use Rattle.std.proofs.lemmas.Result.{err_from_is_err_and}
use Rattle.handing.specs.declared.Written.{Written}
use Rattle.handing.specs.HandingLaws.{handed_all, handed_failed}
use Rattle.journey_lines.specs.OutputLaws.{along_none, along_less, along_more, along_due, along_all}
use Rattle.sending.proofs.print.Goals as goal

pub loop-line-init : goal.loop-line-init
loop-line-init c =
    record {
      along = along_none _ _ _ _ _ _ c.requires.stands (ap (λ (w : Written). w.bytes) c.none-written.ensures);
      room = c.requires.longest_line_in_bounds;
      listed = refl;
      lent = refl;
    }

pub returns : goal.returns
returns c = along_all _ _ _ _ _ _ _ _ _ _ _ c.loop-line.invariant.along c.next.ensures c.in_default.is

pub returns-in_err-written : goal.returns-in_err-written
returns-in_err-written c =
    let i = c.loop-line.invariant in
    let f = handed_failed c.hand.ensures _ c.in_err-written.was in
    let d = along_due _ _ _ _ _ _ _ _ _ _ _ i.along c.next.ensures _ _ c.in-Some.is i.room c.next.auto.out in
    let p = err_from_is_err_and c.from_residual.result c.from_residual.ensures.1 in
    rw (p.1, p.2) (record { some = omega (arith, d.0, f.1); due = λ xs P. omega (arith, d.1 xs P, f.0, f.1) })

pub loop-line-smaller : goal.loop-line-smaller
loop-line-smaller c =
    omega (arith, along_less _ _ _ _ _ _ _ _ _ _ _ c.loop-line.invariant.along c.next.ensures _ _ c.in-Some.is c.next.auto.list)

pub loop-line-preserved : goal.loop-line-preserved
loop-line-preserved c =
    let i = c.loop-line.invariant in
    let l = c.next.auto.list in
    let o = c.next.auto.out in
    let a = handed_all c.hand.ensures _ c.in_ok-written.was in
    record {
      along = along_more _ _ _ _ _ _ _ _ _ _ _ i.along c.next.ensures _ _ c.in-Some.is l i.room o a;
      room = omega (arith, i.room, o);
      listed = l ∙ i.listed;
      lent = o ∙ i.lent;
    }
