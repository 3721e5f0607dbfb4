-- The loop leaves at the first protected block: at its head, the answer is that of the blocks left.
use mathlib.Core.Path.{◌≡◌}
use Prim.Native.Nat.{◌+◌, ◌-◌}
use Rattle.card.specs.Protect.{any_guarded}
use Rattle.card_protect.proofs.any_guarded.Given as goal

abbrev pub invariant-loop-block : goal.invariant-loop-block
invariant-loop-block l = (l.end ≡ l.first + l.count) × (any_guarded l.all l.marks l.block (l.end - l.block) ≡ any_guarded l.all l.marks l.first l.count)
