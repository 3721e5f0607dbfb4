-- What the encoder and the decoder answer, case by case.
use mathlib.Core.Path.{◌≡◌}
use mathlib.Core.Bool.{true, false}
use mathlib.Core.List.{List}
use Prim.Native.Nat.{ℕ, ◌+◌, ◌≤◌}
use borrow.Author.Tests.{le-ltb, le-leb}
use lib.ListN.{length}
use Rattle.codec.specs.Answer.{done, refused, WRONG, emit}
use Rattle.wire_packet.specs.Packet.{PAYLOAD, CHECK, packet, payload_of, packet_right, encode_packet, decode_packet}

-- ---- the decoder

pub record Decoded (p payload : List ℕ) : Type 0 where
  pub least : 1 + CHECK ≤ length p
  pub most : length p ≤ PAYLOAD + CHECK
  pub sound : packet_right p ≡ true
  pub value : payload_of p ≡ payload

pub decode-done : (p payload : List ℕ) → Decoded p payload → decode_packet p ≡ done payload
unfolding decode_packet
decode-done p payload d = simp (le-leb _ _ d.least, le-leb _ _ d.most, d.sound, d.value)

pub decode-wrong : (p : List ℕ) → 1 + CHECK ≤ length p → length p ≤ PAYLOAD + CHECK → packet_right p ≡ false → decode_packet p ≡ refused WRONG
unfolding decode_packet
decode-wrong p h l e = simp (le-leb _ _ h, le-leb _ _ l, e)

-- ---- the encoder

pub encode-done : (payload out : List ℕ) → 1 ≤ length payload → length payload ≤ PAYLOAD → PAYLOAD + CHECK ≤ length out
    → emit (packet payload) out ≡ encode_packet payload out
unfolding encode_packet
encode-done payload out h l r = simp (le-leb _ _ h, le-leb _ _ l, le-ltb _ _ r)
