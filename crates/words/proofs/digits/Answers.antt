use Rattle.words.proofs.digits.Goals as goal
use Rattle.std.proofs.Common.{◌∙◌, rules, sym}
use Rattle.words.specs.DigitsLaws.{digits_none, digits_more, digits_fail, is_digit_ascii}

pub loop-k-init : goal.loop-k-init
loop-k-init c = digits_none _ _

pub returns-then-not-is_ascii_digit : goal.returns-then-not-is_ascii_digit
returns-then-not-is_ascii_digit c =
    digits_fail _ _ _ c.loop-k.k c.loop-k-test.true (is_digit_ascii _ ∙ sym c.is_ascii_digit.ensures.value ∙ search rules)

pub loop-k-preserved : goal.loop-k-preserved
loop-k-preserved c = digits_more c.loop-k.invariant (search rules) (search rules)
