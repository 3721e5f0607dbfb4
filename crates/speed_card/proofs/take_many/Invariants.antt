-- Block after block: at the loop's head, the calls left give what all of them give.
use mathlib.Core.Path.{◌≡◌}
use Prim.Native.Nat.{◌-◌, ◌≤◌}
use lib.ListN.{length}
use Rattle.card.specs.Step.{take_block}
use Rattle.card.specs.Step.{world}
use Rattle.speed_card.specs.Blocks.{more, many}
use Rattle.speed_card.proofs.take_many.Given as goal

abbrev pub invariant-loop : goal.invariant-loop
invariant-loop l = (l.n ≤ l.counter) × (l.counter ≤ l.count) × (length l.out ≡ length l.initial.out)
    × (more take_block (l.count - l.counter) (world l.now l.memory) l.out l.n
    ≡ many take_block l.count (world l.initial.now l.memory) l.initial.out)
