-- `crc7` is the check of all its bytes: at the loop's head, the register run over what is left gives the whole check.
use mathlib.Core.Path.{◌≡◌}
use mathlib.Core.Bool.{Bool, false}
use mathlib.Core.List.{List, [], ◌∷◌, ◌++◌}
use Prim.Native.Nat.{◌^◌, ◌≤◌, ◌<◌}
use lib.ListN.{length, drop}
use Rattle.crc.specs.Bits.{bits, bits_of}
use Rattle.crc.specs.Crc.{run, crc, poly7}
use Rattle.crc.proofs.crc7.Given as goal

-- the polynomial with the register one place up in its byte
abbrev up7 : List Bool
up7 = poly7 ++ (false ∷ [])

abbrev pub invariant-loop-byte : goal.invariant-loop-byte
invariant-loop-byte l = (l.byte-index ≤ length l.s) × (l.r < 2 ^ 8) × (run up7 (bits 8 l.r) (bits_of (drop l.byte-index l.s)) ≡ crc poly7 (bits_of l.s) ++ (false ∷ []))
