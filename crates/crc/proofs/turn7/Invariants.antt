-- `turn7` is eight turns: at the loop's head the turns that are left lead to the same register.
use mathlib.Core.Path.{◌≡◌}
use mathlib.Core.Bool.{Bool, false}
use mathlib.Core.List.{List, [], ◌∷◌, ◌++◌}
use Prim.Native.Nat.{◌-◌, ◌≤◌}
use Rattle.crc.specs.Bits.{bits}
use Rattle.crc.specs.Crc.{poly7, turns}
use Rattle.crc.proofs.turn7.Given as goal

-- the polynomial with the register one place up in its byte
abbrev up7 : List Bool
up7 = poly7 ++ (false ∷ [])

abbrev pub invariant-loop : goal.invariant-loop
invariant-loop l = (l.counter ≤ 8) × (turns up7 (8 - l.counter) (bits 8 l.q) ≡ turns up7 8 (bits 8 l.r))
