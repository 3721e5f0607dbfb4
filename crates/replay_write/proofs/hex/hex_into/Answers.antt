-- `hex_into` writes two digits a turn: at the loop's head what is written and the digits that are left are all of them.
use mathlib.Core.Path.{refl}
use native.Mathlib.Omega.{arith}
use borrow.Author.Rules.{rules}
use lib.Bits.{mask_lt}
use lib.ListN.{get_or, length-set}
use Rattle.replay_write.proofs.Digits.{hex-more, hex_all}
use Rattle.replay_write.proofs.hex.hex_into.Goals as goal

pub loop-i-preserved : goal.loop-i-preserved
loop-i-preserved c =
    let at = c.loop-i in
    (omega arith, simp length-set at.invariant.1, hex-more _ _ _ _ _ (search rules) (omega arith) c.digit.ensures c.digit-in-loop-i.ensures at.invariant.2)

pub returns : goal.returns
returns c = hex_all _ _ c.loop-i.i (search rules) (omega arith) c.loop-i.invariant.2
