-- What the 48-bit frames share: a first byte, 32 bits of content, and a last byte of CRC7 and end bit or of ones.
use Rattle.std.specs.Prelude.{Bool, true, cond, ◌&&◌, List, [], ◌∷◌, ◌++◌, ℕ, eqb, ltb, length, get_or, take, drop, Result}
use Rattle.crc.specs.Bits.{bits, number, bits_of, bytes}
use Rattle.crc.specs.Crc.{crc, poly7}
use Rattle.crc.specs.Detection.{same}
use Rattle.codec.specs.declared.Refusal.{Refusal}
use Rattle.codec.specs.Answer.{Outcome, done, refused, SIZE, BUFFER, WRONG, FIELD, Encoding, refuse, emit, outcome_of}

-- the last eight bits, behind the others
unfoldable pub closing : Bool → List Bool → List Bool
closing checked bs = cond checked (crc poly7 bs ++ (true ∷ [])) (bits 8 255)

-- the six bytes
unfoldable pub frame : Bool → ℕ → ℕ → List ℕ
frame checked first content =
    let bs = bits 8 first ++ bits 32 content in
    bytes 6 (bs ++ closing checked bs)

-- rows 4 and 8, or the bytes
unfoldable pub encode_frame : Bool → Bool → ℕ → ℕ → List ℕ → Encoding
encode_frame fits checked first content out =
    cond (ltb (length out) 17) (refuse BUFFER out) (cond fits (emit (frame checked first content) out) (refuse FIELD out))

-- start and transmission bit 0 with this index in the first byte, and the last byte right
unfoldable pub whole : Bool → ℕ → List ℕ → Bool
whole checked index s =
    (ltb index 64 && eqb (get_or s 0 0) index) && same (drop 40 (bits_of s)) (closing checked (take 40 (bits_of s)))

-- rows 1 and 7, or the content
unfoldable pub read_frame : Bool → ℕ → List ℕ → Outcome ℕ
read_frame checked index s =
    cond (eqb (length s) 6) (cond (whole checked index s) (done (number (bits_of (take 4 (drop 1 s))))) (refused WRONG)) (refused SIZE)

abbrev pub frame_read : Result ℕ Refusal → Outcome ℕ
frame_read = outcome_of (λ content. content)
