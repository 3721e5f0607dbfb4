-- What SCR and OCR share: one word and no check.
use Rattle.std.specs.Prelude.{Bool, cond, List, ℕ, ◌*◌, ltb, length}
use Rattle.crc.specs.Bits.{bits, bytes}
use Rattle.codec.specs.Answer.{BUFFER, FIELD, Encoding, refuse, emit}

-- rows 4 and 8, or the last `size` bytes of a word
unfoldable pub emitted : Bool → ℕ → ℕ → List ℕ → Encoding
emitted fits word size out =
    cond (ltb (length out) 17) (refuse BUFFER out) (cond fits (emit (bytes size (bits (8 * size) word)) out) (refuse FIELD out))
