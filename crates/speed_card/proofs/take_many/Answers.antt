-- Block after block: at the loop's head, the calls left give what all of them give.
use mathlib.Core.Path.{refl, ◌∙◌}
use native.Mathlib.Omega.{arith}
use Rattle.card.specs.Step.{take_block}
use Rattle.speed_card.proofs.Runs.{all_left, less, none_left}
use Rattle.speed_card.proofs.take_many.Goals as goal

pub loop-init : goal.loop-init
loop-init c = (omega arith, omega arith, refl, all_left take_block _ _ _)

pub loop-preserved : goal.loop-preserved
loop-preserved c =
    let t = c in
    let head = t in (
      omega arith,
      omega arith,
      c.out-1.given ∙ head.loop.invariant.2,
      less take_block _ _ _ _ _ _ t.take-s.result _ _ _ t.loop-test.true t.take-s.ensures c.right-n.ensures.0 ∙ head.loop.invariant.3,
    )

pub shape_of-out : goal.shape_of-out
shape_of-out c = c.loop.invariant.2

pub returns : goal.returns
returns c = none_left take_block _ _ _ _ _ c.loop-test.false ∙ c.loop.invariant.3
