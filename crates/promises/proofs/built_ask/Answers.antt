use Rattle.std.proofs.Common.{refl, sym, arith, rules, ◌∙◌}
use Rattle.std.proofs.lemmas.Result.{err_from_is_err_and}
use Rattle.promises.specs.BuiltLaws.{asked_built, asked_refused, refused_zero, left_refused, left_answered}
use Rattle.promises.proofs.built_ask.Goals as goal

pub returns-in_err-built-clause-built_ask : goal.returns-in_err-built-clause-built_ask
returns-in_err-built-clause-built_ask c =
    let p = err_from_is_err_and c.from_residual.result c.from_residual.ensures.1 in
    rw (p.1, p.2) (asked_refused _ _ _ _ c.in_err-built.ensures.build_of (λ i. omega (arith, c.type_inv.tables i)) _ _ _ refl
    (refused_zero c.in_err-built.ensures.build_of refl))

pub returns-then-is_err-clause-built_ask : goal.returns-then-is_err-clause-built_ask
returns-then-is_err-clause-built_ask c =
    asked_built _ _ _ _ c.in_ok-built.ensures.build_of (λ i. search rules) _ _ _ refl refl c.answered-asked.ensures
    (c.zero.ensures ∙ left_refused _ _ (sym c.is_err.ensures.value ∙ c.if-is_err.true))

pub returns-else-is_err-clause-built_ask : goal.returns-else-is_err-clause-built_ask
returns-else-is_err-clause-built_ask c =
    asked_built _ _ _ _ c.in_ok-built.ensures.build_of (λ i. search rules) _ _ _ refl refl c.answered-asked.ensures
    (left_answered _ _ (sym c.is_err.ensures.value ∙ c.if-is_err.false))
