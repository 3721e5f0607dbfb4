-- Round trips: a packet's payload comes back, and what is taken for a packet is the packet of its payload. No byte is ignored.
use mathlib.Core.Path.{◌≡◌, refl, sym, ap, ◌∙◌}
use mathlib.Core.Bool.{Bool, true, false, cond, ◌&&◌}
use mathlib.Core.List.{List, ◌++◌}
use Prim.Native.Nat.{ℕ, ◌+◌, ◌-◌, ◌≤◌}
use native.Mathlib.Omega.{arith}
use borrow.Author.Tests.{leb-true}
use lib.Dec.{leb}
use lib.ListN.{length, take, drop, length-drop, take-append-drop}
use lib.Seq.{take_at, drop_at, get_or-drop, length-take-le}
use Rattle.crc.specs.Bits.{bits_of, bytes, Bytes}
use Rattle.crc.specs.Crc.{crc, poly16}
use Rattle.crc.proofs.Bits.{bits_of-bytes, bytes-bits_of}
use Rattle.codec.specs.Answer.{done, refused, SIZE, WRONG}
use Rattle.codec.proofs.Bits.{same_eq, same_true}
use Rattle.wire_packet.specs.Packet.{PAYLOAD, CHECK, packet, payload_of, packet_right, decode_packet}
use Rattle.wire_packet.specs.Claims.{PacketRoundTrip}
use Rattle.wire_packet.proofs.Check.{length-check}
use Rattle.wire_packet.proofs.Answers.{Decoded, decode-done}
use Rattle.wire_packet.proofs.Emitted.{length-packet}

-- ---- decode after encode

module _ (payload : List ℕ) where
  cut : length (packet payload) - CHECK ≡ length payload
  cut = omega (arith, length-packet payload)

  payload_of-packet : payload_of (packet payload) ≡ payload
  unfolding payload_of packet
  payload_of-packet = ap (λ (k : ℕ). take k (packet payload)) cut ∙ take_at payload (bytes CHECK (crc poly16 (bits_of payload))) (length payload) refl

  packet_right-packet : packet_right (packet payload) ≡ true
  unfolding packet_right packet
  packet_right-packet =
      let check = crc poly16 (bits_of payload) in
      same_eq _ _
      (ap (λ (k : ℕ). bits_of (drop k (packet payload))) cut
      ∙ ap bits_of (drop_at payload (bytes CHECK check) (length payload) refl)
      ∙ bits_of-bytes CHECK check (length-check (bits_of payload))
      ∙ ap (λ (s : List ℕ). crc poly16 (bits_of s)) (sym payload_of-packet))

  decode-packet : 1 ≤ length payload → length payload ≤ PAYLOAD → decode_packet (packet payload) ≡ done payload
  decode-packet h l =
      decode-done (packet payload) payload
      (record {
        least = omega (arith, length-packet payload);
        most = omega (arith, length-packet payload);
        sound = packet_right-packet;
        value = payload_of-packet;
      })

-- ---- encode after decode

done-decode : (p payload : List ℕ) → decode_packet p ≡ done payload → Decoded p payload
unfolding decode_packet
done-decode p payload e = go (leb (1 + CHECK) (length p)) (leb (length p) (PAYLOAD + CHECK)) (packet_right p) refl refl refl e
  where
    go : (a b c : Bool) → leb (1 + CHECK) (length p) ≡ a → leb (length p) (PAYLOAD + CHECK) ≡ b → packet_right p ≡ c
        → cond (a && b) (cond c (done (payload_of p)) (refused WRONG)) (refused SIZE) ≡ done payload → Decoded p payload
    go true true true ha hb hc h =
        record { least = leb-true (1 + CHECK) (length p) ha; most = leb-true (length p) (PAYLOAD + CHECK) hb; sound = hc; value = cc }
    go true true false ha hb hc h = let z : ◌≡◌ {A = ℕ} 0 1 = cc in absurd (omega arith)
    go true false c ha hb hc h = let z : ◌≡◌ {A = ℕ} 0 1 = cc in absurd (omega arith)
    go false b c ha hb hc h = let z : ◌≡◌ {A = ℕ} 0 1 = cc in absurd (omega arith)

Bytes-drop : (n : ℕ) (s : List ℕ) → Bytes s → Bytes (drop n s)
Bytes-drop n s h i = rw (get_or-drop n s i 0) (h (n + i))

packet-decode : (p payload : List ℕ) → Bytes p → decode_packet p ≡ done payload → packet payload ≡ p
unfolding packet packet_right payload_of
packet-decode p payload hp e =
    let d = done-decode p payload e in
    let n = length p - CHECK in
    let two : CHECK ≡ length (drop n p) = omega (arith, length-drop n p, d.least) in
    ap packet (sym d.value)
    ∙ ap (λ (c : List Bool). take n p ++ bytes CHECK c) (sym (same_true (bits_of (drop n p)) (crc poly16 (bits_of (take n p))) d.sound))
    ∙ ap (λ (x : List ℕ). take n p ++ x)
    (ap (λ (k : ℕ). bytes k (bits_of (drop n p))) two ∙ bytes-bits_of (drop n p) (Bytes-drop n p hp))
    ∙ take-append-drop n p

decoded-fits : (p payload : List ℕ) → decode_packet p ≡ done payload → (1 ≤ length payload) × (length payload ≤ PAYLOAD)
unfolding payload_of
decoded-fits p payload e =
    let d = done-decode p payload e in
    let l : length payload ≡ length p - CHECK = ap length (sym d.value) ∙ length-take-le (length p - CHECK) p (omega arith) in
    (omega arith, omega arith)

pub packet_round_trip : PacketRoundTrip
packet_round_trip = record { decode-encode = decode-packet; decoded-fits = decoded-fits; encode-decode = packet-decode }
