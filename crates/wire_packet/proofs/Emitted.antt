-- What the encoder writes: the packet, and what stood behind it.
use mathlib.Core.Path.{◌≡◌, refl, sym, ap, ap₂, ◌∙◌}
use mathlib.Core.List.{List, ◌++◌, append_assoc, append-nil}
use Prim.Native.Nat.{ℕ, ◌+◌, ◌*◌, ◌≤◌}
use native.Mathlib.Omega.{arith}
use borrow.Rule.Slice.PartMut.{put_mid}
use lib.ListN.{length, take, drop, length-append, length-drop, drop_of_length-le}
use lib.Seq.{take_at, drop_at, drop-drop, length-take-le, take-length}
use Rattle.crc.specs.Bits.{bits, bits_of, bytes}
use Rattle.crc.specs.Crc.{crc, poly16, crc16_of}
use Rattle.crc.proofs.Bits.{length-bytes}
use Rattle.wire_packet.specs.Packet.{CHECK, packet}
use Rattle.wire_packet.proofs.Check.{bytes-check}

pub length-packet : (payload : List ℕ) → length (packet payload) ≡ length payload + CHECK
unfolding packet
length-packet payload = simp (length-append, length-bytes) (omega arith)

-- a payload copied to the part of a buffer that has its length
pub copied-payload : (payload out : List ℕ) → length payload ≤ length out → (copied : List ℕ)
    → copied ≡ take (length (take (length payload) out)) payload ++ drop (length payload) (take (length payload) out) → copied ≡ payload
copied-payload payload out room copied e =
    let l : length (take (length payload) out) ≡ length payload = length-take-le (length payload) out room in
    e
    ∙ ap₂ (λ (x y : List ℕ). x ++ y)
    (ap (λ (j : ℕ). take j payload) l ∙ take-length payload)
    (drop_of_length-le (take (length payload) out) {i = length payload} (omega arith))
    ∙ append-nil payload

-- the payload is copied to the front of the buffer, and `put32` fills the bytes behind it with the check
module _ (payload out : List ℕ) (room : length payload + CHECK ≤ length out) where
  written-check : (k check : ℕ) (rest written : List ℕ) → k ≡ CHECK → CHECK ≤ length rest → check ≡ crc16_of payload
      → written ≡ bytes (length (take k rest)) (bits (8 * length (take k rest)) check) → written ≡ bytes CHECK (crc poly16 (bits_of payload))
  unfolding crc16_of
  written-check k check rest written hk hr hc e =
      let l : length (take k rest) ≡ CHECK = length-take-le k rest (omega arith) ∙ hk in
      e
      ∙ ap₂ (λ (j v : ℕ). bytes j (bits (8 * j) v)) l hc
      ∙ bytes-check (bits_of payload)

  pub emitted : (m check : ℕ) (copied written : List ℕ) → m ≡ CHECK → copied ≡ payload → check ≡ crc16_of payload
      → (let rest = drop (length payload) (copied ++ drop (length payload) out)
      in written ≡ bytes (length (take m rest)) (bits (8 * length (take m rest)) check))
      → put_mid (length payload) m (copied ++ drop (length payload) out) written ≡ packet payload ++ drop (length (packet payload)) out
  unfolding packet
  emitted m check copied written hm ec hc ew =
      let n = length payload in
      let behind : drop n (copied ++ drop n out) ≡ drop n out =
      ap (λ (x : List ℕ). drop n (x ++ drop n out)) ec ∙ drop_at payload (drop n out) n refl in
      let w : written ≡ bytes CHECK (crc poly16 (bits_of payload)) =
      written-check m check (drop n (copied ++ drop n out)) written hm (omega (arith, ap length behind, length-drop n out)) hc ew in
      ap₂ (λ (x y : List ℕ). x ++ (written ++ y))
      (ap (λ (x : List ℕ). take n (x ++ drop n out)) ec ∙ take_at payload (drop n out) n refl)
      (ap₂ (λ (j : ℕ) (x : List ℕ). drop j x) hm behind ∙ drop-drop CHECK n out ∙ ap (λ (j : ℕ). drop j out) (sym (length-packet payload)))
      ∙ ap (λ (x : List ℕ). payload ++ (x ++ drop (length (packet payload)) out)) w
      ∙ sym (append_assoc payload (bytes CHECK (crc poly16 (bits_of payload))) (drop (length (packet payload)) out))
