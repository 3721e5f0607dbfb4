-- `crc16` is the check of all its bytes: at the loop's head, the register run over what is left gives the whole check.
use mathlib.Core.Path.{refl}
use Prim.Native.Nat.{◌*◌, ◌^◌, ◌%◌}
use native.Mathlib.Omega.{arith}
use borrow.Author.Rules.{rules}
use lib.ListN.{get_or}
use Rattle.crc.specs.Bits.{bits, bits_of}
use Rattle.crc.specs.Crc.{crc, poly16, crc16_of}
use Rattle.crc.proofs.Words.{byte-fed, moved, all-fed}
use Rattle.crc.proofs.crc16.Goals as goal

pub loop-byte-init : goal.loop-byte-init
unfolding crc poly16 bits
loop-byte-init c = (omega arith, omega arith, refl)

pub loop-byte-preserved : goal.loop-byte-preserved
unfolding poly16 bits
loop-byte-preserved c =
    let s = c.args.s.now in
    let at = c.loop-byte in
    let b = get_or s at.byte-index 0 in (
      omega arith,
      search rules,
      byte-fed 16 poly16 s at.byte-index at.r (b * 2 ^ 8 % 2 ^ 16) c.turn-r.result (crc poly16 (bits_of s))
          refl (omega arith) c.loop-byte-test.true (moved 8 8 b) (rw (← c.from.ensures) c.turn-r.ensures) at.invariant.2,
    )

pub returns : goal.returns
unfolding crc16_of
returns c =
    let s = c.args.s.now in
    let at = c.loop-byte in
    all-fed 16 poly16 s at.byte-index at.r (crc poly16 (bits_of s)) at.invariant.1 c.loop-byte-test.false at.invariant.2
