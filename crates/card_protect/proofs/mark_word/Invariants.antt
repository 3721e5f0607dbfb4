-- The marks are read from the highest group down: at the loop's head, the bits read and those left are all.
use mathlib.Core.Path.{◌≡◌}
use mathlib.Core.List.{◌++◌}
use Prim.Native.Nat.{◌+◌, ◌-◌, ◌/◌, ◌≤◌}
use Rattle.crc.specs.Bits.{bits}
use Rattle.card.specs.Settings.{GROUP}
use Rattle.card.specs.Protect.{group_of, mark_bits}
use Rattle.card_protect.proofs.mark_word.Given as goal

abbrev pub invariant-loop-k : goal.invariant-loop-k
invariant-loop-k l = (l.k ≤ 32) × (l.count ≡ (l.blocks + (GROUP - 1)) / GROUP) × (l.group ≡ group_of l.address)
    × (bits (32 - l.k) l.word ++ mark_bits l.count l.marks l.group l.k ≡ mark_bits l.count l.marks l.group 32)
