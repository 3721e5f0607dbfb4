-- What is claimed of data packets, and proved in proofs/.
use Rattle.std.specs.Prelude.{◌≡◌, false, List, ℕ, ◌+◌, ◌≤◌, length}
use Rattle.crc.specs.Bits.{Bytes}
use Rattle.codec.specs.Answer.{done}
use Rattle.wire_packet.specs.Packet.{PAYLOAD, CHECK, packet, packet_right, decode_packet}
use Rattle.wire_packet.specs.Damage.{DamagedBlock}

pub record PacketRoundTrip : Type 0 where
  -- decoding after encoding gives the payload back
  pub decode-encode : (payload : List ℕ) → 1 ≤ length payload → length payload ≤ PAYLOAD → decode_packet (packet payload) ≡ done payload
  -- what was decoded can be encoded, and gives the packet back: no byte is ignored
  pub decoded-fits : (p payload : List ℕ) → decode_packet p ≡ done payload → (1 ≤ length payload) × (length payload ≤ PAYLOAD)
  pub encode-decode : (p payload : List ℕ) → Bytes p → decode_packet p ≡ done payload → packet payload ≡ p

-- no damaged block has a right check
abbrev pub BlockCaught : Type 0
BlockCaught = (size : ℕ) → size ≤ PAYLOAD + CHECK → (got : List ℕ) → DamagedBlock size got → packet_right got ≡ false
