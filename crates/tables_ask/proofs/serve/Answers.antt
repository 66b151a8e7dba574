use Rattle.std.proofs.Common.{refl, arith, length-take-le}
use Rattle.desk.specs.ToldLaws.{admitted_read}
use Rattle.tables_ask.specs.HeldLaws.{can_answer}
use Rattle.tables_ask.proofs.serve.Goals as goal

pub answer-requires-clause-ready : goal.answer-requires-clause-ready
answer-requires-clause-ready c =
    let a = c.in-Ok.ensures in
    let q = c.read_asks-k in
    let n = c.args.n in
    let g = admitted_read a.admit_of refl a.runs_after a.codes_after in
    let l = length-take-le n c.args.held.now (omega (arith, c.requires.0, c.requires.1)) in
    can_answer _ _ n q.result g.0 q.ensures.held_unchanged (omega (arith, g.1, l)) c.if-k-gt-INPUT_MOST.false
    (omega (arith, c.requires.0, c.requires.1, q.ensures.upper_bound, q.auto.held)) c.args.tables.now
