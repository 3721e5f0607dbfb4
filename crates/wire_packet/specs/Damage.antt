-- A damaged data block: 01's words in "The histories of demand 3".
use Rattle.std.specs.Prelude.{◌≡◌, true, List, ℕ, length}
use Rattle.crc.specs.Bits.{bits_of}
use Rattle.crc.specs.Altered.{Altered}
use Rattle.wire_packet.specs.Packet.{packet_right}

-- a block of so many bytes with its right check, altered in one to three bits or within sixteen neighbouring bits
pub record DamagedBlock (size : ℕ) (got : List ℕ) : Type 0 where
  pub sent : List ℕ
  pub sent_size : length sent ≡ size
  pub sound : packet_right sent ≡ true
  pub got_size : length got ≡ size
  pub altered : Altered 3 16 (bits_of sent) (bits_of got)
