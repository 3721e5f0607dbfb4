-- `hex_into` writes two digits a turn: at the loop's head what is written and the digits that are left are all of them.
use mathlib.Core.Path.{◌≡◌}
use mathlib.Core.List.{◌++◌}
use Prim.Native.Nat.{◌*◌, ◌≤◌}
use lib.ListN.{length, take, drop}
use Rattle.replay_read.specs.Hex.{hex}
use Rattle.replay_write.proofs.hex.hex_into.Given as goal

abbrev pub invariant-loop-i : goal.invariant-loop-i
invariant-loop-i l = (l.i ≤ length l.bytes) × (length l.out ≡ length l.initial.out) × (hex l.bytes ≡ take (2 * l.i) l.out ++ hex (drop l.i l.bytes))
