use native.Mathlib.Omega.{arith}
use Rattle.opening.specs.OpenLaws.{first_in, second_in, first_shorter, second_shorter, few_first, few_second}
use Rattle.opening.specs.OpenLaws.{both_listed, first_missing, second_missing, halves_missing}
use Rattle.opening.proofs.+open_span.Goals as goal

-- no pivot: open_run
pub returns-then-s : goal.returns-then-s
returns-then-s t c = c.open_run.ensures _

-- the first label
pub open_span-requires : goal.open_span-requires
open_span-requires t c = let R = c.requires.ground.started in
    (omega (arith, first_shorter R c.in_ok-h.ensures), (c.requires.ground, first_in R c.in_ok-h.ensures))

-- the second label
pub open_span-requires-2 : goal.open_span-requires-2
open_span-requires-2 t c = let R = c.requires.ground.started in
    (omega (arith, second_shorter R c.in_ok-h.ensures), (c.requires.ground, second_in R c.in_ok-h.ensures))

-- the number of rides
pub overflow_add-result : goal.overflow_add-result
overflow_add-result t c =
    let R = c.requires.ground.started in
    let M = c.in_ok-h.ensures in
    omega (arith, few_first R M c.in_ok-k.ensures, few_second R M c.in_ok-m.ensures)

-- the labels do not meet
pub returns-in_err-h : goal.returns-in_err-h
returns-in_err-h t c = rw c.from_residual.ensures (halves_missing c.args.s.now c.if-s.false c.in_err-h.ensures)

-- a ride of the first is missing
pub returns-in_err-k : goal.returns-in_err-k
returns-in_err-k t c = rw c.from_residual-in_err-k.ensures
    (first_missing c.requires.ground.started c.in_ok-h.ensures c.if-s.false c.in_err-k.ensures)

-- a ride of the second is missing
pub returns-in_err-m : goal.returns-in_err-m
returns-in_err-m t c = rw c.from_residual-in_err-m.ensures
    (second_missing c.requires.ground.started c.in_ok-h.ensures c.if-s.false c.in_err-m.ensures)

-- the rides of both
pub returns : goal.returns
returns t c =
    let R = c.requires.ground.started in
    both_listed R c.in_ok-h.ensures c.if-s.false c.in_ok-k.ensures c.in_ok-m.ensures c.open_span.auto.list c.min-start.ensures
