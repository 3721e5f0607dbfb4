-- Every short response: its first byte is its index, and its slots are those of the content.
use mathlib.Core.Path.{◌≡◌, refl, sym, ap, ap₂, ◌∙◌}
use mathlib.Core.Bool.{Bool, true, false, ◌&&◌, and-eq-true_iff, and-true}
use mathlib.Core.List.{List, [], ◌∷◌, ◌++◌, append-nil}
use Prim.Native.Nat.{ℕ, ◌+◌, ◌/◌, ◌%◌, ◌^◌, ◌<◌, ◌≤◌}
use native.Mathlib.Nat.{mod-eq_of_lt}
use native.Mathlib.Omega.{arith}
use borrow.Author.Tests.{ltb-true, lt-ltb, eqb-true, eq-eqb, ne_eqb}
use lib.Dec.{eqb, ltb}
use lib.ListN.{length, get_or, take, drop}
use Rattle.crc.specs.Bits.{bits, bits_of, Bytes}
use Rattle.crc.specs.Detection.{same}
use Rattle.codec.specs.Answer.{outcome_of}
use Rattle.codec.specs.Layout.{Slot, field, fixed, width, write, read, judged, fits}
use Rattle.codec.specs.Format.{encode, decode, image, ended, bare, crc7_from}
use Rattle.codec.proofs.Bits.{bits_of-last, test_eq, both}
use Rattle.codec.proofs.Words.{within, judged_in, read_word, judged-word, right-bare}
use Rattle.wire_frame.specs.Frame.{closing, frame, encode_frame, whole, read_frame, frame_read}
use Rattle.std.specs.Prelude.{Result}
use Rattle.codec.specs.declared.Refusal.{Refusal}
use Rattle.wire_response.specs.Response.{response, short, r3}
use Rattle.wire_frame.proofs.Frames.{content, bits_of-first, bits_of-content, read-content, same-last, turned, turned-read, turned-same, outcome-turned, decode-frame, encode-framed, image-frame, right-frame}

-- ---- the first byte

-- start and transmission bit 0 and the index are the byte of the index
index-byte : (index b : ℕ) → b < 256 → judged_in (response index []) 8 b ≡ ltb index 64 && eqb b index
unfolding judged_in
index-byte index b h =
    let zeros = eqb (b / 2 ^ 7 % 2 ^ 1) 0 in
    let low = eqb (b / 2 ^ 6 % 2 ^ 1) 0 in
    let same = eqb (b / 2 ^ 0 % 2 ^ 6) index in
    test_eq (judged_in (response index []) 8 b) (ltb index 64 && eqb b index)
    (λ e.
    let (p, e1) = (and-eq-true_iff zeros (low && (same && true))).0 e in
    let (q, e2) = (and-eq-true_iff low (same && true)).0 e1 in
    let (r, e3) = (and-eq-true_iff same true).0 e2 in
    let p1 : b / 2 ^ 7 % 2 ^ 1 ≡ 0 = eqb-true (b / 2 ^ 7 % 2 ^ 1) 0 p in
    let q1 : b / 2 ^ 6 % 2 ^ 1 ≡ 0 = eqb-true (b / 2 ^ 6 % 2 ^ 1) 0 q in
    let r1 : b / 2 ^ 0 % 2 ^ 6 ≡ index = eqb-true (b / 2 ^ 0 % 2 ^ 6) index r in
    let b7 : b / 2 ^ 7 ≡ 0 = sym (mod-eq_of_lt {n = b / 2 ^ 7} (omega arith)) ∙ p1 in
    let b6 : b / 2 ^ 6 ≡ 0 = sym (mod-eq_of_lt {n = b / 2 ^ 6} (omega arith)) ∙ q1 in
    both (lt-ltb index 64 (omega arith)) (eq-eqb b index (omega arith)))
    (λ e.
    let (p, q) = (and-eq-true_iff (ltb index 64) (eqb b index)).0 e in
    let p1 : index < 64 = ltb-true index 64 p in
    let q1 : b ≡ index = eqb-true b index q in
    both (eq-eqb (b / 2 ^ 7 % 2 ^ 1) 0 (omega arith))
    (both (eq-eqb (b / 2 ^ 6 % 2 ^ 1) 0 (omega arith)) (both (eq-eqb (b / 2 ^ 0 % 2 ^ 6) index (omega arith)) refl)))

pub write-index : (index : ℕ) (rest : List Slot) (vs : List ℕ) → index < 64 → write (response index rest) vs ≡ bits 8 index ++ write rest vs
unfolding write bits
write-index index rest vs h =
    ap₂ (λ (a b : Bool). a ∷ (b ∷ (bits 6 index ++ write rest vs)))
    (sym (ne_eqb (index / 2 ^ 7 % 2) 1 (omega arith)))
    (sym (ne_eqb (index / 2 ^ 6 % 2) 1 (omega arith)))

-- ---- the slots

module _ (index : ℕ) (rest : List Slot) (s : List ℕ) where
  pub judged-index : 1 ≤ length s → Bytes s
      → judged (response index rest) (bits_of s) ≡ (ltb index 64 && eqb (get_or s 0 0) index) && judged rest (bits_of (drop 1 s))
  unfolding width
  judged-index h b =
      ap (judged (response index rest)) (bits_of-first s h)
      ∙ judged-word (response index []) rest (get_or s 0 0) (bits_of (drop 1 s))
      ∙ ap (λ (p : Bool). p && judged rest (bits_of (drop 1 s))) (index-byte index (get_or s 0 0) (b 0))

  pub read-index : 1 ≤ length s → read (response index rest) (bits_of s) ≡ read rest (bits_of (drop 1 s))
  unfolding width within
  read-index h = ap (read (response index rest)) (bits_of-first s h) ∙ read_word (response index []) rest (get_or s 0 0) (bits_of (drop 1 s))

-- what was read, as the value of one field
pub read_one : (checked : Bool) (index : ℕ) (s : List ℕ) (r : Result ℕ Refusal) → frame_read r ≡ read_frame checked index s
    → outcome_of (λ (w : ℕ). w ∷ []) r ≡ turned (within (field 32 ∷ []) 32) (frame_read r)
unfolding within
read_one checked index s r e =
    outcome-turned (λ (w : ℕ). w ∷ []) r
    ∙ ap (turned (λ (w : ℕ). w ∷ [])) e
    ∙ turned-same (λ (w : ℕ). w ∷ []) (within (field 32 ∷ []) 32) checked index s (λ w h. ap (λ (x : ℕ). x ∷ []) (omega arith))
    ∙ ap (turned (within (field 32 ∷ []) 32)) (sym e)

-- ---- with a CRC7

module _ (index : ℕ) (rest : List Slot) where
  decode-short : (s : List ℕ) → Bytes s → width rest ≡ 32 → ((bs : List Bool) → judged rest bs ≡ true)
      → decode (short index rest) s ≡ turned (within rest 32) (read_frame true index s)
  unfolding width whole read
  decode-short s b hw plain =
      decode-frame (response index rest) (crc7_from 0) (within rest 32) true index s
      (λ l.
      right-frame (response index rest) s (ap (λ (k : ℕ). 1 + (1 + (6 + k))) hw)
      ∙ ap (λ (p : Bool). p && same (drop 40 (bits_of s)) (closing true (take 40 (bits_of s))))
      (judged-index index rest s (omega arith) b
      ∙ ap (λ (p : Bool). (ltb index 64 && eqb (get_or s 0 0) index) && p) (plain (bits_of (drop 1 s)))
      ∙ and-true (ltb index 64 && eqb (get_or s 0 0) index)))
      (λ l.
      read-index index rest s (omega arith)
      ∙ ap (λ (r : List Slot). read r (bits_of (drop 1 s))) (sym (append-nil rest))
      ∙ read-content rest [] s hw l
      ∙ append-nil (within rest 32 (content s)))

  pub read_short : (s : List ℕ) → Bytes s → width rest ≡ 32 → ((bs : List Bool) → judged rest bs ≡ true) → (r q : Result ℕ Refusal) → r ≡ q
      → frame_read r ≡ read_frame true index s → turned (within rest 32) (frame_read q) ≡ decode (short index rest) s
  read_short s b hw plain r q p e =
      turned-read (within rest 32) r q (read_frame true index s) (decode (short index rest) s) p e (decode-short s b hw plain)

  pub encode-short : (vs out : List ℕ) (p : Bool) (w : ℕ) → fits (response index rest) vs ≡ p
      → (p ≡ true → write rest vs ≡ bits 32 w)
      → encode (short index rest) vs out ≡ encode_frame p true index w out
  unfolding fits
  encode-short vs out p w h e =
      encode-framed (short index rest) vs out p true index w h
      (λ t.
      image-frame (response index rest) vs index w
      (write-index index rest vs (ltb-true index 64 ((and-eq-true_iff (ltb index (2 ^ 6)) (fits rest vs)).0 (h ∙ t)).0)
      ∙ ap (λ (x : List Bool). bits 8 index ++ x) (e t)))

-- ---- R3, whose last byte is no check

ones : List Slot
ones = fixed 7 127 ∷ (fixed 1 1 ∷ [])

ones-byte : (b : ℕ) → b < 256 → judged_in ones 8 b ≡ eqb b 255
unfolding judged_in ones
ones-byte b h =
    let high = eqb (b / 2 ^ 1 % 2 ^ 7) 127 in
    let low = eqb (b / 2 ^ 0 % 2 ^ 1) 1 in
    test_eq (judged_in ones 8 b) (eqb b 255)
    (λ e.
    let (p, e1) = (and-eq-true_iff high (low && true)).0 e in
    let (q, e2) = (and-eq-true_iff low true).0 e1 in
    let p1 : b / 2 ^ 1 % 2 ^ 7 ≡ 127 = eqb-true (b / 2 ^ 1 % 2 ^ 7) 127 p in
    let q1 : b / 2 ^ 0 % 2 ^ 1 ≡ 1 = eqb-true (b / 2 ^ 0 % 2 ^ 1) 1 q in
    eq-eqb b 255 (omega arith))
    (λ e.
    let e1 : b ≡ 255 = eqb-true b 255 e in
    both (eq-eqb (b / 2 ^ 1 % 2 ^ 7) 127 (omega arith)) (both (eq-eqb (b / 2 ^ 0 % 2 ^ 1) 1 (omega arith)) refl))

decode-ones : (s : List ℕ) → Bytes s → decode r3 s ≡ turned (within (field 32 ∷ []) 32) (read_frame false 63 s)
unfolding width whole read judged judged_in ones bits closing within
decode-ones s b =
    let rest = field 32 ∷ ones in
    decode-frame (response 63 rest) bare (within (field 32 ∷ []) 32) false 63 s
    (λ l.
    right-bare r3 s refl (omega arith)
    ∙ judged-index 63 rest s (omega arith) b
    ∙ ap (λ (p : Bool). (ltb 63 64 && eqb (get_or s 0 0) 63) && p)
    (ap (judged rest) (bits_of-content s l)
    ∙ judged-word (field 32 ∷ []) ones (content s) (bits_of (drop 5 s))
    ∙ ap (judged ones) (bits_of-last 5 s l)
    ∙ judged-word ones [] (get_or s 5 0) []
    ∙ and-true (judged_in ones 8 (get_or s 5 0))
    ∙ ones-byte (get_or s 5 0) (b 5)
    ∙ sym (same-last false s 255 l b (omega arith) refl)))
    (λ l. read-index 63 rest s (omega arith) ∙ read-content (field 32 ∷ []) ones s refl l)

pub read-ones : (s : List ℕ) → Bytes s → (r q : Result ℕ Refusal) → r ≡ q
    → frame_read r ≡ read_frame false 63 s → turned (within (field 32 ∷ []) 32) (frame_read q) ≡ decode r3 s
read-ones s b r q p e =
    turned-read (within (field 32 ∷ []) 32) r q (read_frame false 63 s) (decode r3 s) p e (decode-ones s b)

pub encode-ones : (ocr : ℕ) (out : List ℕ) → ocr < 2 ^ 32 → encode r3 (ocr ∷ []) out ≡ encode_frame true false 63 ocr out
unfolding image frame closing ended write bits fits
encode-ones ocr out h = encode-framed r3 (ocr ∷ []) out true false 63 ocr (simp (lt-ltb ocr (2 ^ 32) h)) (λ t. refl)
