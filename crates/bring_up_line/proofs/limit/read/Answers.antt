-- `read` goes digit by digit.
use mathlib.Core.Path.{sym, ◌∙◌}
use Rattle.bring_up_line.proofs.Limits.{too_large, no_digit, more, whole}
use Rattle.bring_up_line.proofs.limit.read.Goals as goal

pub returns-then-not-is_ascii_digit : goal.returns-then-not-is_ascii_digit
returns-then-not-is_ascii_digit c =
    let at = c.loop-digit in
    no_digit _ at.digit-index at.value c.loop-digit-test.true at.invariant.1 c.if-not-is_ascii_digit.ensures.value

pub returns-then-value-gt1000 : goal.returns-then-value-gt1000
returns-then-value-gt1000 c =
    let at = c.loop-digit in
    sym (too_large _ _ c.if-value-gt1000.true)
    ∙ more _ at.digit-index at.value c.loop-digit-test.true at.invariant.1 c.if-not-is_ascii_digit.ensures.value _ c.from.ensures

pub loop-digit-preserved : goal.loop-digit-preserved
loop-digit-preserved c =
    let at = c.loop-digit in (
      c.if-value-gt1000.false,
      more _ at.digit-index at.value c.loop-digit-test.true at.invariant.1 c.if-not-is_ascii_digit.ensures.value _ c.from.ensures,
    )

pub returns : goal.returns
returns c = let at = c.loop-digit in whole _ at.digit-index at.value c.loop-digit-test.false at.invariant.0 at.invariant.1
