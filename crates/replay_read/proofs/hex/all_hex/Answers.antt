-- At the loop's head, whether all were digits so far, and the characters that are left.
use mathlib.Core.Path.{sym, ◌∙◌}
use Rattle.replay_read.proofs.Digits.{all_hex-next, all_hex-end}
use borrow.Author.Rules.{rules}
use Rattle.replay_read.proofs.hex.all_hex.Goals as goal

pub loop-digit-preserved : goal.loop-digit-preserved
loop-digit-preserved c =
    c.loop-digit.invariant
    ∙ all_hex-next c.args.digits.now c.loop-digit.digit-index c.loop-digit.right _ (search rules) c.is_digit-right.ensures

pub returns : goal.returns
returns c = sym (c.loop-digit.invariant ∙ all_hex-end c.args.digits.now c.loop-digit.digit-index c.loop-digit.right (search rules))
