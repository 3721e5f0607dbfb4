-- The loop leaves at the first protected block: at its head, the answer is that of the blocks left.
use mathlib.Core.Path.{◌≡◌, refl, sym, ap, ◌∙◌}
use Prim.Native.Nat.{◌+◌, ◌-◌}
use native.Mathlib.Omega.{arith}
use Rattle.card.specs.Protect.{any_guarded}
use Rattle.card_protect.proofs.Blocks.{any_one, any_none, any_end}
use Rattle.card_protect.proofs.any_guarded.Goals as goal

pub returns-then-guarded_block : goal.returns-then-guarded_block
returns-then-guarded_block c =
    let at = c.loop-block in
    sym (any_one _ _ at.block _ c.loop-block-test.true (sym c.guarded_block.ensures ∙ c.if-guarded_block.true)) ∙ at.invariant.1

pub loop-block-preserved : goal.loop-block-preserved
loop-block-preserved c =
    let at = c.loop-block in
    (at.invariant.0, sym (any_none _ _ at.block _ c.loop-block-test.true (sym c.guarded_block.ensures ∙ c.if-guarded_block.false)) ∙ at.invariant.1)

pub returns : goal.returns
returns c =
    let at = c.loop-block in
    sym (any_end _ _ at.block _ c.loop-block-test.false) ∙ at.invariant.1
