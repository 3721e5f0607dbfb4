-- Responses that an encoder sends: there is room, each field fits or is cut to its width, and they are what the step shows.
use Rattle.std.proofs.Common.{◌≡◌, ℕ, ◌/◌, ◌%◌, ◌^◌, ◌<◌, ◌≤◌, Bool, true, eqb, List, [], ◌∷◌, ◌++◌, length, drop, set, sym, refl, ap, ◌∙◌, ap₂, arith, le-ltb, lt-ltb, eq-eqb}
use native.Mathlib.Nat.{mod-mod}
use lib.Pow.{mod-mod-pow}
use Rattle.crc.specs.Bits.{bits, number, bytes}
use Rattle.crc.proofs.Bits.{bits_cong}
use Rattle.std.specs.Prelude.{Result}
use Rattle.codec.specs.declared.Refusal.{Refusal}
use Rattle.codec.specs.Answer.{Encoding, encoding, encoded, emit, done}
use Rattle.codec.specs.Layout.{write, fits}
use Rattle.codec.specs.Format.{Format, encode, image, ended, crc7_from}
use Rattle.wire_response.specs.Response.{r1, r2_bytes, encode_r2, r3, r6, r7}
use Rattle.wire_response.specs.Status.{short_status}
use Rattle.card.specs.declared.answer.Answer.{Answer}
use Rattle.card.specs.declared.answer.Answer.TheVariants.{Silence, Sent}
use Rattle.card.specs.Frame as Frame
use Rattle.card.specs.Step as Step
use Rattle.card.specs.Step.{answer, wire, reply_of}
use Rattle.card.specs.Replied.{replied}
use Rattle.card_respond.specs.declared.Behind.{Behind}
use Rattle.card_respond.specs.Sent.{behind, Sends, Shows}

pub sends : (f : Format) (vs s out after : List ℕ) (e : Result ℕ Refusal) (a : Answer) → encoding e after ≡ encode f vs out → 17 ≤ length out
    → fits f.slots vs ≡ true → image f vs ≡ s → answer a ≡ replied (encoded e) → Sends s out after a
unfolding encode
sends f vs s out after e a h room fit im said =
    let g : encoding e after ≡ emit s out = h ∙ rw (le-ltb (length out) 17 room, fit) (ap (λ (x : List ℕ). emit x out) im) in
    record { count = said ∙ ap (λ (x : Encoding). replied x.answer) g; buffer = ap (λ (x : Encoding). x.buffer) g }

pub sends-r2 : (register out after : List ℕ) (e : Result ℕ Refusal) (a : Answer) → encoding e after ≡ encode_r2 register out → length register ≡ 16
    → 17 ≤ length out → answer a ≡ replied (encoded e) → Sends (r2_bytes register) out after a
unfolding encode_r2
sends-r2 register out after e a h l room said =
    let g : encoding e after ≡ emit (r2_bytes register) out = h ∙ simp (eq-eqb (length register) 16 l, le-ltb (length out) 17 room) in
    record { count = said ∙ ap (λ (x : Encoding). replied x.answer) g; buffer = ap (λ (x : Encoding). x.buffer) g }

-- ---- fields that fit

pub fits-r1 : (i w : ℕ) → i < 64 → w < 2 ^ 32 → fits (r1 i).slots (w ∷ []) ≡ true
unfolding fits
fits-r1 i w h k = simp (lt-ltb i 64 h, lt-ltb w (2 ^ 32) k)

pub fits-r3 : (w : ℕ) → w < 2 ^ 32 → fits r3.slots (w ∷ []) ≡ true
unfolding fits
fits-r3 w k = simp (lt-ltb w (2 ^ 32) k)

pub fits-r6 : (a s : ℕ) → a < 2 ^ 16 → s < 2 ^ 16 → fits r6.slots (a ∷ (s ∷ [])) ≡ true
unfolding fits
fits-r6 a s h k = simp (lt-ltb a (2 ^ 16) h, lt-ltb s (2 ^ 16) k)

pub fits-r7 : (v p : ℕ) → v < 2 ^ 4 → p < 2 ^ 8 → fits r7.slots (v ∷ (p ∷ [])) ≡ true
unfolding fits
fits-r7 v p h k = simp (lt-ltb v (2 ^ 4) h, lt-ltb p (2 ^ 8) k)

-- ---- fields that are cut

cut : (w n : ℕ) → bits w (n % 2 ^ w) ≡ bits w n
cut w n = bits_cong w (n % 2 ^ w) n (mod-mod n (2 ^ w))

-- six bytes with a check
abbrev six : List Bool → List ℕ
six bs = bytes 6 (bs ++ ended (crc7_from 0) bs)

pub image-r1 : (i w : ℕ) → image (r1 (i % 2 ^ 6)) (w % 2 ^ 32 ∷ []) ≡ image (r1 i) (w ∷ [])
unfolding image write
image-r1 i w = ap₂ (λ (x y : List Bool). six (bits 1 0 ++ (bits 1 0 ++ (x ++ (y ++ []))))) (cut 6 i) (cut 32 w)

pub image-r7 : (v p : ℕ) → image r7 (v % 2 ^ 4 ∷ (p ∷ [])) ≡ image r7 (v ∷ (p ∷ []))
unfolding image write
image-r7 v p = ap (λ (x : List Bool). six (bits 1 0 ++ (bits 1 0 ++ (bits 6 8 ++ (bits 20 0 ++ (x ++ (bits 8 p ++ []))))))) (cut 4 v)

-- the short status lies below bit 32
pub short_cut : (w : ℕ) → short_status (w % 2 ^ 32) ≡ short_status w
unfolding short_status
short_cut w =
    let a : w % 2 ^ 32 / 2 ^ 23 % 2 ≡ w / 2 ^ 23 % 2 = omega arith in
    let b : w % 2 ^ 32 / 2 ^ 22 % 2 ≡ w / 2 ^ 22 % 2 = omega arith in
    let c : w % 2 ^ 32 / 2 ^ 19 % 2 ≡ w / 2 ^ 19 % 2 = omega arith in
    rw (a, b, c) (ap (λ (x : List Bool). number (eqb (w / 2 ^ 23 % 2) 1 ∷ (eqb (w / 2 ^ 22 % 2) 1 ∷ (eqb (w / 2 ^ 19 % 2) 1 ∷ x))))
    (bits_cong 13 (w % 2 ^ 32) w (mod-mod-pow w 19 13)))

-- ---- bytes of SPI mode

-- R1 and what stands behind it, stored in front of the buffer
module _ (r1 : ℕ) where
  pub r1-alone : (out : List ℕ) → 17 ≤ length out → set out 0 r1 ≡ r1 ∷ drop 1 out
  r1-alone [] h = absurd (omega arith)
  r1-alone (x ∷ out) h = refl

  pub r1-second : (byte : ℕ) (out : List ℕ) → 17 ≤ length out → set (set out 0 r1) 1 byte ≡ r1 ∷ (byte ∷ drop 2 out)
  r1-second byte [] h = absurd (omega arith)
  r1-second byte (x ∷ []) h = absurd (omega arith)
  r1-second byte (x ∷ (y ∷ out)) h = refl

-- so many bytes, in front of what stood behind them
pub sends-spi : (r1 n : ℕ) (rest k : Behind) (out after : List ℕ) → rest ≡ k → n ≡ length (r1 ∷ behind k) → after ≡ (r1 ∷ behind k) ++ drop n out
    → Sends (r1 ∷ behind rest) out after (Sent n)
sends-spi r1 n rest k out after e l h = rw e (record {
  count = ap (λ (x : ℕ). done (Step.sent x)) l;
  buffer = h ∙ ap (λ (x : ℕ). (r1 ∷ behind k) ++ drop x out) l;
})

-- ---- messages

-- the step shows a message as the bytes that were sent
module _ (crc : Bool) (n k : Frame.Message) (e : n ≡ k) (out : List ℕ) where
  pub shows : (s after : List ℕ) (a : Answer) → wire crc k ≡ s → reply_of crc k ≡ Step.sent (length (wire crc k)) → Sends s out after a
      → Shows crc n out after a
  shows s after a w r h = (
    h.count ∙ ap done (sym (ap (reply_of crc) e ∙ r ∙ ap (λ (x : List ℕ). Step.sent (length x)) w)),
    h.buffer ∙ ap (λ (x : List ℕ). x ++ drop (length x) out) (sym (ap (wire crc) e ∙ w)),
  )

pub shows-silence : (crc : Bool) (n : Frame.Message) (out : List ℕ) → n ≡ Frame.silence
    → Shows crc n out out Silence
unfolding wire reply_of
shows-silence crc n out e = (
  ap (λ (x : Frame.Message). done (reply_of crc x)) (sym e),
  ap (λ (x : Frame.Message). wire crc x ++ drop (length (wire crc x)) out) (sym e),
)
