-- `unhex_into` reads two digits a turn: at the loop's head what is written and the bytes that are left are all of them.
use mathlib.Core.Path.{◌≡◌}
use mathlib.Core.List.{◌++◌}
use Prim.Native.Nat.{◌*◌}
use lib.ListN.{take, drop}
use Rattle.replay_read.specs.Hex.{unhex}
use Rattle.replay_read.proofs.hex.unhex_into.Given as goal

abbrev pub invariant-loop-i : goal.invariant-loop-i
invariant-loop-i l = unhex l.digits ≡ take l.i l.out ++ unhex (drop (2 * l.i) l.digits)
