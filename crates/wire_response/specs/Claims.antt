-- What is proved of responses beside the contracts: their round trips.
use Rattle.std.specs.Prelude.{◌≡◌, true, false, List, ℕ, ◌<◌, length}
use Rattle.crc.specs.Bits.{Bytes}
use Rattle.codec.specs.Answer.{done, refused, WRONG}
use Rattle.codec.specs.RoundTrip.{RoundTrip}
use Rattle.wire_response.specs.Response.{r1, r3, r6, r7, r2_bytes, decode_r2, register_right}

abbrev pub R1RoundTrip : Type 0
R1RoundTrip = (index : ℕ) → index < 64 → RoundTrip (r1 index)

pub record R2RoundTrip : Type 0 where
  -- a register whose own check is right comes back
  pub decode-encode : (register : List ℕ) → length register ≡ 16 → register_right register ≡ true
      → decode_r2 (r2_bytes register) ≡ done register
  -- one whose own check is wrong is refused
  pub wrong-check : (register : List ℕ) → length register ≡ 16 → register_right register ≡ false
      → decode_r2 (r2_bytes register) ≡ refused WRONG
  -- what was decoded can be encoded, and gives the bytes back
  pub decoded-size : (s register : List ℕ) → decode_r2 s ≡ done register → length register ≡ 16
  pub encode-decode : (s register : List ℕ) → Bytes s → decode_r2 s ≡ done register → r2_bytes register ≡ s

abbrev pub R3RoundTrip : Type 0
R3RoundTrip = RoundTrip r3

abbrev pub R6RoundTrip : Type 0
R6RoundTrip = RoundTrip r6

abbrev pub R7RoundTrip : Type 0
R7RoundTrip = RoundTrip r7
