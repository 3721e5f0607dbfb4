-- Formats: so many bytes, their slots, and the check behind these. Every encoder and decoder but the packets' is one of these two.
use Rattle.std.specs.Prelude.{Bool, true, cond, ◌&&◌, List, [], ◌∷◌, ◌++◌, ℕ, ◌+◌, ◌*◌, eqb, ltb, length, take, drop}
use Rattle.crc.specs.Bits.{bits_of, bytes}
use Rattle.crc.specs.Crc.{crc, poly7}
use Rattle.crc.specs.Detection.{same}
use Rattle.codec.specs.Answer.{Outcome, done, refused, SIZE, BUFFER, WRONG, FIELD, Encoding, refuse, emit}
use Rattle.codec.specs.Layout.{Slot, width, write, read, fits, judged}

pub data Ending : Type 0 where
  -- nothing behind the slots
  bare : Ending
  -- the CRC7 of the bits from a place on, and the end bit 1
  crc7_from : ℕ → Ending

pub record Format : Type 0 where
  pub size : ℕ
  pub slots : List Slot
  pub ending : Ending

-- how many bits are behind the slots
unfoldable pub end_width : Ending → ℕ
end_width bare = 0
end_width (crc7_from k) = 8

-- the slots and the check fill the bytes
unfoldable pub sized : Format → Bool
sized f = eqb (8 * f.size) (width f.slots + end_width f.ending)

-- the bits behind the slots
unfoldable pub ended : Ending → List Bool → List Bool
ended bare bs = []
ended (crc7_from k) bs = crc poly7 (drop k bs) ++ (true ∷ [])

-- the bytes of the fields' values
unfoldable pub image : Format → List ℕ → List ℕ
image f vs =
    let bs = write f.slots vs in
    bytes f.size (bs ++ ended f.ending bs)

-- every fixed bit, the check and the end bit are right
unfoldable pub right : Format → List ℕ → Bool
right f s =
    let bs = bits_of s in
    judged f.slots bs && same (drop (width f.slots) bs) (ended f.ending (take (width f.slots) bs))

-- row 4, row 8, or the bytes
unfoldable pub encode : Format → List ℕ → List ℕ → Encoding
encode f vs out = cond (ltb (length out) 17) (refuse BUFFER out) (cond (fits f.slots vs) (emit (image f vs) out) (refuse FIELD out))

-- row 1, row 7, or the fields' values
unfoldable pub decode : Format → List ℕ → Outcome (List ℕ)
decode f s = cond (eqb (length s) f.size) (cond (right f s) (done (read f.slots (bits_of s))) (refused WRONG)) (refused SIZE)
