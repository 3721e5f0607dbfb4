-- Data packets: a payload, then its CRC16, high byte first.
use Rattle.std.specs.Prelude.{Bool, cond, ◌&&◌, List, ◌++◌, ℕ, ◌+◌, ◌-◌, leb, ltb, length, take, drop}
use Rattle.crc.specs.Bits.{bits_of, bytes}
use Rattle.crc.specs.Crc.{crc, poly16}
use Rattle.crc.specs.Detection.{same}
use Rattle.codec.specs.Answer.{Outcome, done, refused, SIZE, BUFFER, WRONG, Encoding, refuse, emit}

-- the most bytes of a payload, and the bytes of a check
abbrev pub PAYLOAD : ℕ
PAYLOAD = 512

abbrev pub CHECK : ℕ
CHECK = 2

-- the packet of a payload
unfoldable pub packet : List ℕ → List ℕ
packet payload = payload ++ bytes CHECK (crc poly16 (bits_of payload))

-- the payload of a packet: all but the check
unfoldable pub payload_of : List ℕ → List ℕ
payload_of p = take (length p - CHECK) p

-- the last bytes are the payload's check
unfoldable pub packet_right : List ℕ → Bool
packet_right p = same (bits_of (drop (length p - CHECK) p)) (crc poly16 (bits_of (payload_of p)))

-- row 1, row 4, or the bytes
unfoldable pub encode_packet : List ℕ → List ℕ → Encoding
encode_packet payload out =
    cond (leb 1 (length payload) && leb (length payload) PAYLOAD)
    (cond (ltb (length out) (PAYLOAD + CHECK)) (refuse BUFFER out) (emit (packet payload) out))
    (refuse SIZE out)

-- row 1, row 7, or the payload
unfoldable pub decode_packet : List ℕ → Outcome (List ℕ)
decode_packet p =
    cond (leb (1 + CHECK) (length p) && leb (length p) (PAYLOAD + CHECK))
    (cond (packet_right p) (done (payload_of p)) (refused WRONG))
    (refused SIZE)
