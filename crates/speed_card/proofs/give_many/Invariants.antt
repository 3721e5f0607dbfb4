-- Block after block: at the loop's head, the calls left give what all of them give.
use mathlib.Core.Path.{◌≡◌}
use mathlib.Core.List.{[]}
use Prim.Native.Nat.{◌-◌, ◌≤◌}
use lib.ListN.{length}
use Rattle.card.specs.Step.{world}
use Rattle.speed_card.specs.Blocks.{more, many, again}
use Rattle.speed_card.proofs.give_many.Given as goal

abbrev pub invariant-loop : goal.invariant-loop
invariant-loop l = (l.n ≤ l.counter) × (l.counter ≤ l.count) × (length l.memory ≡ length l.initial.memory)
    × (more (again l.block) (l.count - l.counter) (world l.now l.memory) [] l.n
    ≡ many (again l.block) l.count (world l.initial.now l.initial.memory) [])
