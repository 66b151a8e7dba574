use borrow.Author.Rules.{rules}
use Prim.Native.Nat.{ℕ}
use mathlib.Core.Path.{◌≡◌, ap}
use native.Mathlib.Omega.{arith}
use Rattle.journeys.specs.Tables.{outs}
use Rattle.tables.specs.File.{tables_of}
use Rattle.tables.specs.declared.Bounds.{Bounds}
use Rattle.desk.specs.SpelledLaws.{outs_first, outs_follow, outs_last}
use Rattle.desk.proofs.owner_of.Goals as goal

pub loop-s-init : goal.loop-s-init
loop-s-init c = omega (arith, outs_first c.args.file.bytes.now)

pub returns-then-k-ins : goal.returns-then-k-ins
returns-then-k-ins c = (search rules, c.loop-s.invariant, omega (arith, c.if-k-ins.true, ap (λ (x : Bounds). x.end) c.ins_of-ins.ensures))

pub loop-s-preserved : goal.loop-s-preserved
loop-s-preserved c = omega (arith, c.if-k-ins.false, ap (λ (x : Bounds). x.end) c.ins_of-ins.ensures, outs_follow c.args.file.bytes.now c.loop-s.s)

pub returns : goal.returns
returns c = let e : c.loop-s.s ≡ c.args.file.stops = omega arith in
    absurd (omega (arith, c.requires, c.loop-s.invariant, ap (λ (s : ℕ). (tables_of c.args.file.bytes.now).start outs s) e, outs_last c.args.file.room))
