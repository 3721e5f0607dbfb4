-- Frames of six bytes: the bits of their first byte, their content and their last byte.
use mathlib.Core.Path.{◌≡◌, refl, sym, ap, ap₂, ◌∙◌}
use mathlib.Core.Bool.{Bool, true, false, ◌&&◌, cond}
use mathlib.Core.List.{List, [], ◌∷◌, ◌++◌, append_assoc}
use Prim.Native.Nat.{ℕ, suc, ◌*◌, ◌%◌, ◌^◌, ◌<◌, ◌≤◌}
use native.Mathlib.Nat.{mod-eq_of_lt}
use native.Mathlib.Omega.{arith}
use borrow.Author.Tests.{eqb-true, eq-eqb, le-ltb}
use borrow.Rule.Slice.PartMut.{put_mid, same_len_mid}
use lib.Dec.{eqb, ltb}
use lib.ListN.{length, get_or, take, drop, set, length-set, length-drop}
use lib.Seq.{take_at, length-take-le, drop-cons, set_at, append_snoc}
use Rattle.crc.specs.Bits.{bits, number, bits_of, bytes, Bytes}
use Rattle.crc.specs.Crc.{crc, poly7}
use Rattle.crc.specs.Detection.{same}
use Rattle.crc.proofs.Bits.{number_lt, length-bits, length-bytes, bits_of-bytes, bytes_append}
use Rattle.codec.specs.Answer.{Outcome, done, refused, SIZE, WRONG, encoding, emit, outcome_of}
use Rattle.std.specs.Prelude.{Result, Ok, Err}
use Rattle.codec.specs.declared.Refusal.{Refusal}
use Rattle.codec.specs.Layout.{Slot, width, write, read, judged, fits}
use Rattle.codec.specs.Format.{Format, Ending, crc7_from, ended, image, right, encode, decode}
use Rattle.codec.proofs.Bits.{take-bits_of, drop-bits_of, bits_of-last, length-bits_of_take, same_bits}
use Rattle.codec.proofs.Words.{within, read_word, bits_of-word, byte-bits}
use Rattle.wire_frame.specs.Frame.{closing, frame, encode_frame, whole, read_frame, frame_read}

-- ---- reading

-- the content of six bytes
abbrev pub content : List ℕ → ℕ
content s = number (bits_of (take 4 (drop 1 s)))

pub bits_of-first : (s : List ℕ) → 1 ≤ length s → bits_of s ≡ bits 8 (get_or s 0 0) ++ bits_of (drop 1 s)
unfolding bits_of
bits_of-first [] h = absurd (omega arith)
bits_of-first (b ∷ s) h = refl

pub bits_of-content : (s : List ℕ) → length s ≡ 6 → bits_of (drop 1 s) ≡ bits 32 (content s) ++ bits_of (drop 5 s)
bits_of-content [] h = absurd (omega arith)
bits_of-content (b ∷ s) h = bits_of-word 4 s (omega arith)

pub content_lt : (s : List ℕ) → length s ≡ 6 → content s < 2 ^ 32
content_lt s h =
    rw (length-bits_of_take 4 (drop 1 s) (omega (arith, length-drop 1 s))) at (number_lt (bits_of (take 4 (drop 1 s))))

-- the fields of the content, which other slots may follow
pub read-content : (l m : List Slot) (s : List ℕ) → width l ≡ 32 → length s ≡ 6
    → read (l ++ m) (bits_of (drop 1 s)) ≡ within l 32 (content s) ++ read m (bits_of (drop 5 s))
read-content l m s hw h =
    ap (read (l ++ m)) (bits_of-content s h)
    ∙ ap (λ (k : ℕ). read (l ++ m) (bits k (content s) ++ bits_of (drop 5 s))) (sym hw)
    ∙ read_word l m (content s) (bits_of (drop 5 s))
    ∙ ap (λ (k : ℕ). within l k (content s) ++ read m (bits_of (drop 5 s))) hw

-- the word of the content, as it is read
pub word-content : (s : List ℕ) (r : ℕ) → length s ≡ 6 → r ≡ content s % 2 ^ 32 → r ≡ content s
word-content s r h e = e ∙ mod-eq_of_lt (content_lt s h)

-- the last byte, judged as bits and as a number
pub same-last : (checked : Bool) (s : List ℕ) (c : ℕ) → length s ≡ 6 → Bytes s → c < 256
    → bits 8 c ≡ closing checked (bits_of (take 5 s))
    → same (drop 40 (bits_of s)) (closing checked (take 40 (bits_of s))) ≡ eqb (get_or s 5 0) c
same-last checked s c h b hc e =
    ap₂ (λ (x y : List Bool). same x (closing checked y))
    (drop-bits_of 5 s (omega arith) ∙ bits_of-last 5 s h)
    (take-bits_of 5 s (omega arith))
    ∙ ap (same (bits 8 (get_or s 5 0))) (sym e)
    ∙ same_bits 8 (get_or s 5 0) c (b 5) hc

-- a frame of the right size, by its first byte and its last
pub read_frame-bytes : (checked : Bool) (index : ℕ) (s : List ℕ) (c : ℕ) → length s ≡ 6 → Bytes s → c < 256
    → bits 8 c ≡ closing checked (bits_of (take 5 s))
    → read_frame checked index s ≡ cond ((ltb index 64 && eqb (get_or s 0 0) index) && eqb (get_or s 5 0) c) (done (content s)) (refused WRONG)
unfolding read_frame whole
read_frame-bytes checked index s c h b hc e =
    ap₂ (λ (p q : Bool). cond p (cond ((ltb index 64 && eqb (get_or s 0 0) index) && q) (done (content s)) (refused WRONG)) (refused SIZE))
    (eq-eqb (length s) 6 h)
    (same-last checked s c h b hc e)

-- what a decoder makes of a frame's content
abbrev pub turned : (ℕ → List ℕ) → Outcome ℕ → Outcome (List ℕ)
turned g (done w) = done (g w)
turned g (refused k) = refused k

pub turned-read : (g : ℕ → List ℕ) (r q : Result ℕ Refusal) (o : Outcome ℕ) (d : Outcome (List ℕ)) → r ≡ q → frame_read r ≡ o → d ≡ turned g o
    → turned g (frame_read q) ≡ d
turned-read g r q o d p e h = ap (λ (x : Result ℕ Refusal). turned g (frame_read x)) (sym p) ∙ ap (turned g) e ∙ sym h

-- what was read, as a decoder hands it on
pub outcome-turned : (g : ℕ → List ℕ) (r : Result ℕ Refusal) → outcome_of g r ≡ turned g (frame_read r)
outcome-turned g (Ok w) = refl
outcome-turned g (Err e) = refl

-- a content has 32 bits
pub turned-same : (g h : ℕ → List ℕ) (checked : Bool) (index : ℕ) (s : List ℕ) → ((w : ℕ) → w < 2 ^ 32 → g w ≡ h w)
    → turned g (read_frame checked index s) ≡ turned h (read_frame checked index s)
unfolding read_frame
turned-same g h checked index s e = go (eqb (length s) 6) (whole checked index s) refl
  where
    go : (p q : Bool) → eqb (length s) 6 ≡ p → turned g (cond p (cond q (done (content s)) (refused WRONG)) (refused SIZE))
        ≡ turned h (cond p (cond q (done (content s)) (refused WRONG)) (refused SIZE))
    go true true l = ap done (e (content s) (content_lt s (eqb-true (length s) 6 l)))
    go true false l = refl
    go false q l = refl

pub decode-frame : (slots : List Slot) (ending : Ending) (g : ℕ → List ℕ) (checked : Bool) (index : ℕ) (s : List ℕ)
    → (length s ≡ 6 → right (record { size = 6; slots = slots; ending = ending }) s ≡ whole checked index s)
    → (length s ≡ 6 → read slots (bits_of s) ≡ g (content s))
    → decode (record { size = 6; slots = slots; ending = ending }) s ≡ turned g (read_frame checked index s)
unfolding decode read_frame
decode-frame slots ending g checked index s hr hv = go (eqb (length s) 6) (whole checked index s) refl refl
  where
    go : (p q : Bool) → eqb (length s) 6 ≡ p → whole checked index s ≡ q
        → decode (record { size = 6; slots = slots; ending = ending }) s ≡ turned g (read_frame checked index s)
    go true true hp hq = let l = eqb-true (length s) 6 hp in simp (hp, hr l, hq, hv l)
    go true false hp hq = let l = eqb-true (length s) 6 hp in simp (hp, hr l, hq)
    go false q hp hq = simp hp

-- ---- writing

-- a first byte is stored and the n bytes behind it are lent: the whole, what stands in front, and the whole with a last byte
module _ (n first : ℕ) (out mid : List ℕ) (l : length mid ≡ n) where
  pub stored : 1 ≤ length out → put_mid 1 n (set out 0 first) mid ≡ (first ∷ mid) ++ drop (suc n) out
  stored h = go out h
    where
      go : (o : List ℕ) → 1 ≤ length o → put_mid 1 n (set o 0 first) mid ≡ (first ∷ mid) ++ drop (suc n) o
      go [] h = absurd (omega arith)
      go (x ∷ o) h = refl

  pub stored-front : 1 ≤ length out → take (suc n) (put_mid 1 n (set out 0 first) mid) ≡ first ∷ mid
  stored-front h = ap (take (suc n)) (stored h) ∙ take_at (first ∷ mid) (drop (suc n) out) (suc n) (ap suc l)

  pub stored_last : (last : ℕ) → suc n < length out
      → set (put_mid 1 n (set out 0 first) mid) (suc n) last ≡ (first ∷ (mid ++ (last ∷ []))) ++ drop (suc (suc n)) out
  stored_last last h =
      ap (λ (q : List ℕ). set q (suc n) last) (stored (omega arith) ∙ ap (λ (q : List ℕ). (first ∷ mid) ++ q) (drop-cons out (suc n) 0 h))
      ∙ set_at (first ∷ mid) (get_or out (suc n) 0) (drop (suc (suc n)) out) last (suc n) (ap suc l)
      ∙ sym (append_snoc (first ∷ mid) last (drop (suc (suc n)) out))

-- the part that is lent
pub length-lent : (n first : ℕ) (out : List ℕ) → suc n ≤ length out → length (take n (drop 1 (set out 0 first))) ≡ n
length-lent n first out h =
    length-take-le n (drop 1 (set out 0 first)) (omega (arith, length-drop 1 (set out 0 first), length-set out 0 first))

-- the part comes back as long as it was lent, and so does the whole
module _ (n first : ℕ) (out mid : List ℕ) (l : length mid ≡ length (take n (drop 1 (set out 0 first)))) where
  pub length-stored : length (put_mid 1 n (set out 0 first) mid) ≡ length out
  length-stored = same_len_mid 1 n (set out 0 first) mid l ∙ length-set out 0 first

pub emitted : (n : ℕ) (s buffer out : List ℕ) → length s ≡ n → buffer ≡ s ++ drop n out → encoding (Ok n) buffer ≡ emit s out
emitted n s buffer out h e =
    ap (encoding (Ok n)) e ∙ ap (λ (k : ℕ). record { answer = done k; buffer = s ++ drop k out }) (sym h)

frame-bytes : (checked : Bool) (first w c : ℕ) → first < 256 → c < 256
    → bits 8 c ≡ closing checked (bits_of (first ∷ bytes 4 (bits 32 w)))
    → frame checked first w ≡ first ∷ (bytes 4 (bits 32 w) ++ (c ∷ []))
unfolding frame bits_of
frame-bytes checked first w c hf hc e =
    ap (λ (x : List Bool). bytes 6 ((bits 8 first ++ bits 32 w) ++ x))
    (ap (λ (x : List Bool). closing checked (bits 8 first ++ x)) (sym (bits_of-bytes 4 (bits 32 w) (length-bits 32 w))) ∙ sym e)
    ∙ ap (bytes 6) (append_assoc (bits 8 first) (bits 32 w) (bits 8 c))
    ∙ bytes_append 1 5 (bits 8 first) (bits 32 w ++ bits 8 c) (length-bits 8 first)
    ∙ ap₂ (λ (x y : List ℕ). x ++ y) (byte-bits first hf)
    (bytes_append 4 1 (bits 32 w) (bits 8 c) (length-bits 32 w) ∙ ap (λ (x : List ℕ). bytes 4 (bits 32 w) ++ x) (byte-bits c hc))

-- the content, as `put` writes it into its part
pub put-content : (first w : ℕ) (out mid : List ℕ) → 17 ≤ length out
    → mid ≡ bytes (length (take 4 (drop 1 (set out 0 first)))) (bits (8 * length (take 4 (drop 1 (set out 0 first)))) w)
    → mid ≡ bytes 4 (bits 32 w)
put-content first w out mid h e = e ∙ ap (λ (k : ℕ). bytes k (bits (8 * k) w)) (length-lent 4 first out (omega arith))

pub frame-stored : (checked : Bool) (first w c : ℕ) (out mid : List ℕ) → first < 256 → c < 256 → 17 ≤ length out → mid ≡ bytes 4 (bits 32 w)
    → bits 8 c ≡ closing checked (bits_of (take 5 (put_mid 1 4 (set out 0 first) mid)))
    → encoding (Ok 6) (set (put_mid 1 4 (set out 0 first) mid) 5 c) ≡ encode_frame true checked first w out
unfolding encode_frame frame
frame-stored checked first w c out mid hf hc h m e =
    let l : length mid ≡ 4 = ap length m ∙ length-bytes 4 (bits 32 w) in
    let f : frame checked first w ≡ first ∷ (mid ++ (c ∷ [])) =
    frame-bytes checked first w c hf hc
    (e ∙ ap (λ (q : List ℕ). closing checked (bits_of q)) (stored-front 4 first out mid l (omega arith) ∙ ap (λ (q : List ℕ). first ∷ q) m))
    ∙ ap (λ (q : List ℕ). first ∷ (q ++ (c ∷ []))) (sym m) in
    emitted 6 (frame checked first w) (set (put_mid 1 4 (set out 0 first) mid) 5 c) out
    (length-bytes 6 ((bits 8 first ++ bits 32 w) ++ closing checked (bits 8 first ++ bits 32 w)))
    (stored_last 4 first out mid l c (omega arith) ∙ ap (λ (q : List ℕ). q ++ drop 6 out) (sym f))
    ∙ sym (simp (le-ltb (length out) 17 h))

pub encode-framed : (f : Format) (vs out : List ℕ) (p checked : Bool) (first w : ℕ) → fits f.slots vs ≡ p
    → (p ≡ true → image f vs ≡ frame checked first w)
    → encode f vs out ≡ encode_frame p checked first w out
unfolding encode encode_frame
encode-framed f vs out true checked first w h e = simp (h, e refl)
encode-framed f vs out false checked first w h e = simp h

-- ---- six bytes with a CRC7

module _ (slots : List Slot) where
  pub image-frame : (vs : List ℕ) (first w : ℕ) → write slots vs ≡ bits 8 first ++ bits 32 w
      → image (record { size = 6; slots = slots; ending = crc7_from 0 }) vs ≡ frame true first w
  unfolding image frame closing ended
  image-frame vs first w e = ap (λ (x : List Bool). bytes 6 (x ++ (crc poly7 x ++ (true ∷ [])))) e

  pub right-frame : (s : List ℕ) → width slots ≡ 40
      → right (record { size = 6; slots = slots; ending = crc7_from 0 }) s
      ≡ judged slots (bits_of s) && same (drop 40 (bits_of s)) (closing true (take 40 (bits_of s)))
  unfolding right closing ended
  right-frame s h = ap (λ (k : ℕ). judged slots (bits_of s) && same (drop k (bits_of s)) (crc poly7 (take k (bits_of s)) ++ (true ∷ []))) h
