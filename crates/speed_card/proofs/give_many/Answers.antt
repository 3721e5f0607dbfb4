-- Block after block: at the loop's head, the calls left give what all of them give.
use mathlib.Core.Path.{refl, ◌∙◌}
use mathlib.Core.List.{[]}
use native.Mathlib.Omega.{arith}
use Rattle.speed_card.specs.Blocks.{again}
use Rattle.speed_card.proofs.Runs.{all_left, less, none_left}
use Rattle.speed_card.proofs.give_many.Goals as goal

pub loop-init : goal.loop-init
loop-init c = (omega arith, omega arith, refl, all_left (again _) _ _ [])

pub loop-preserved : goal.loop-preserved
loop-preserved c =
    let t = c in
    let head = t in (
      omega arith,
      omega arith,
      c.memory-1.given ∙ head.loop.invariant.2,
      less (again _) _ _ _ _ _ [] t.block_in-s.result _ [] _ t.loop-test.true t.block_in-s.ensures c.right-n.ensures.0 ∙ head.loop.invariant.3,
    )

pub shape_of-memory : goal.shape_of-memory
shape_of-memory c = c.loop.invariant.2

pub returns : goal.returns
returns c = none_left (again _) _ _ _ _ [] c.loop-test.false ∙ c.loop.invariant.3
