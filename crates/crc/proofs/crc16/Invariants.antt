-- `crc16` is the check of all its bytes: at the loop's head, the register run over what is left gives the whole check.
use mathlib.Core.Path.{◌≡◌}
use Prim.Native.Nat.{◌^◌, ◌≤◌, ◌<◌}
use lib.ListN.{length, drop}
use Rattle.crc.specs.Bits.{bits, bits_of}
use Rattle.crc.specs.Crc.{run, crc, poly16}
use Rattle.crc.proofs.crc16.Given as goal

abbrev pub invariant-loop-byte : goal.invariant-loop-byte
invariant-loop-byte l = (l.byte-index ≤ length l.s) × (l.r < 2 ^ 16) × (run poly16 (bits 16 l.r) (bits_of (drop l.byte-index l.s)) ≡ crc poly16 (bits_of l.s))
