-- What CID and CSD share: 120 bits of content in two words, then CRC7 and the end bit.
use Rattle.std.specs.Prelude.{Bool, cond, List, ◌++◌, ℕ, eqb, ltb, length, take, drop}
use Rattle.crc.specs.Bits.{bits, bits_of, bytes}
use Rattle.crc.specs.Detection.{same}
use Rattle.codec.specs.Answer.{SIZE, BUFFER, WRONG, FIELD, Encoding, refuse, emit}
use Rattle.codec.specs.Format.{ended, crc7_from}

-- the 120 bits of content
abbrev pub content : ℕ → ℕ → List Bool
content first rest = bits 64 first ++ bits 56 rest

-- the register's sixteen bytes
unfoldable pub sixteen : ℕ → ℕ → List ℕ
sixteen first rest = bytes 16 (content first rest ++ ended (crc7_from 0) (content first rest))

-- rows 4 and 8, or the bytes
unfoldable pub emitted : Bool → ℕ → ℕ → List ℕ → Encoding
emitted fits first rest out = cond (ltb (length out) 17) (refuse BUFFER out) (cond fits (emit (sixteen first rest) out) (refuse FIELD out))

-- rows 1 and 7, or 0
unfoldable pub verdict : List ℕ → ℕ
verdict s =
    cond (eqb (length s) 16)
    (cond (same (drop 120 (bits_of s)) (ended (crc7_from 0) (take 120 (bits_of s)))) 0 WRONG)
    SIZE
