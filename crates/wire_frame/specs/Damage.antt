-- Well-formed frames and damaged copies of them: 01's words in "The histories of demand 3".
use Rattle.std.specs.Prelude.{◌≡◌, true, List, ℕ, length}
use Rattle.crc.specs.Bits.{bits_of}
use Rattle.crc.specs.Altered.{Altered}
use Rattle.codec.specs.Format.{right}
use Rattle.wire_frame.specs.Command.{command}

-- 6 bytes with right start, transmission and end bits and CRC7
pub record WellFormed (s : List ℕ) : Type 0 where
  pub size : length s ≡ 6
  pub sound : right command s ≡ true

-- a well-formed frame, altered in one or two bits or within seven neighbouring bits
pub record DamagedFrame (got : List ℕ) : Type 0 where
  pub sent : List ℕ
  pub well_formed : WellFormed sent
  pub got_size : length got ≡ 6
  pub altered : Altered 2 7 (bits_of sent) (bits_of got)
