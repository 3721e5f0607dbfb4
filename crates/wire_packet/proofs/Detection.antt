-- The error-detection law of the CRC16, on bytes: a damaged block has no right check.
use mathlib.Core.Path.{◌≡◌, refl}
use mathlib.Core.Bool.{Bool, true, false}
use mathlib.Core.List.{List}
use Prim.Native.Nat.{ℕ}
use native.Mathlib.Omega.{arith}
use Rattle.crc.specs.Bits.{bits_of}
use Rattle.crc.specs.Crc.{poly16}
use Rattle.crc.specs.Detection.{Right}
use Rattle.crc.proofs.Bits.{length-bits_of}
use Rattle.crc.proofs.Detection.{poly16_detects}
use Rattle.wire_packet.specs.Packet.{payload_of, packet_right}
use Rattle.wire_packet.specs.Claims.{BlockCaught}
use Rattle.wire_packet.proofs.Check.{length-poly16, right-bits, right-long}

right : (p : List ℕ) → packet_right p ≡ true → Right poly16 (bits_of p)
right p e = record { message = bits_of (payload_of p); checked = right-bits p (right-long p e) e }

pub block-caught : BlockCaught
block-caught size h got d = go (packet_right got) refl
  where
    go : (b : Bool) → packet_right got ≡ b → packet_right got ≡ false
    go false e = e
    go true e =
        absurd
        (poly16_detects (bits_of d.sent) (bits_of got)
        (omega (arith, length-bits_of d.sent, d.sent_size))
        (right d.sent d.sound)
        (rw length-poly16 d.altered)
        (right got e))
