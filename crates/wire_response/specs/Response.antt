-- Responses of the card: start 0, transmission 0, and what each kind carries.
use Rattle.std.specs.Prelude.{Bool, cond, List, [], ◌∷◌, ℕ, eqb, ltb, length, take, drop, replicate}
use Rattle.crc.specs.Bits.{bits_of}
use Rattle.crc.specs.Detection.{same}
use Rattle.codec.specs.Answer.{Outcome, done, refused, SIZE, BUFFER, WRONG, Encoding, refuse, emit}
use Rattle.codec.specs.Layout.{Slot, field, reserved, fixed}
use Rattle.codec.specs.Format.{Format, bare, crc7_from, ended, right}

-- start and transmission bit 0 and the index, then the rest
abbrev pub response : ℕ → List Slot → List Slot
response index rest = fixed 1 0 ∷ fixed 1 0 ∷ fixed 6 index ∷ rest

-- six bytes with a CRC7
abbrev pub short : ℕ → List Slot → Format
short index rest = record { size = 6; slots = response index rest; ending = crc7_from 0 }

-- R1: index, status, CRC7
abbrev pub r1 : ℕ → Format
r1 index = short index (field 32 ∷ [])

-- R2 as it is judged: 3Fh, then fifteen bytes of a register with their own CRC7 and end bit
abbrev pub r2 : Format
r2 = record { size = 17; slots = response 63 (replicate 15 (field 8)); ending = crc7_from 8 }

-- R2: 3Fh, then the 16 bytes of a register
abbrev pub r2_bytes : List ℕ → List ℕ
r2_bytes register = 63 ∷ register

-- rows 1 and 4, or the register as it is, whatever its own check
unfoldable pub encode_r2 : List ℕ → List ℕ → Encoding
encode_r2 register out =
    cond (eqb (length register) 16)
    (cond (ltb (length out) 17) (refuse BUFFER out) (emit (r2_bytes register) out))
    (refuse SIZE out)

-- rows 1 and 7, or the register
unfoldable pub decode_r2 : List ℕ → Outcome (List ℕ)
decode_r2 s = cond (eqb (length s) 17) (cond (right r2 s) (done (drop 1 s)) (refused WRONG)) (refused SIZE)

-- a register's last byte is the CRC7 of the fifteen before it, and the end bit 1
unfoldable pub register_right : List ℕ → Bool
register_right s = same (drop 120 (bits_of s)) (ended (crc7_from 0) (take 120 (bits_of s)))

-- R3: 3Fh, OCR, FFh, which is no check
abbrev pub r3 : Format
r3 = record { size = 6; slots = response 63 (field 32 ∷ fixed 7 127 ∷ fixed 1 1 ∷ []); ending = bare }

-- R6: index 3, RCA, short status, CRC7
abbrev pub r6 : Format
r6 = short 3 (field 16 ∷ field 16 ∷ [])

-- R7: index 8, accepted voltage in 11..8, echoed pattern in 7..0, CRC7
abbrev pub r7 : Format
r7 = short 8 (reserved 20 ∷ field 4 ∷ field 8 ∷ [])
