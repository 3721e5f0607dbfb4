-- Block after block: at the loop's head, sweeping the blocks left of memory as it is gives the whole sweep.
use mathlib.Core.Path.{◌≡◌}
use Prim.Native.Nat.{◌+◌, ◌-◌, ◌*◌, ◌≤◌}
use lib.ListN.{length}
use Rattle.card.specs.Settings.{BLOCK}
use Rattle.card.specs.Effects.{swept}
use Rattle.card_effect.proofs.sweep.Given as goal

abbrev pub invariant-loop-block : goal.invariant-loop-block
invariant-loop-block l = (l.behind ≡ l.first + l.count) × (l.behind * BLOCK ≤ length l.initial.memory) × (length l.memory ≡ length l.initial.memory)
    × (swept l.all l.marks l.block (l.behind - l.block) l.memory ≡ swept l.all l.marks l.first l.count l.initial.memory)
