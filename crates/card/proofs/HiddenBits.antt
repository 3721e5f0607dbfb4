-- What a caller compares of a response is the same whatever COM_CRC_ERROR was.
use mathlib.Core.Path.{◌≡◌, refl, sym, ap, ap₂, ◌∙◌}
use mathlib.Core.Bool.{Bool, false, cond}
use mathlib.Core.List.{List, [], ◌∷◌, ◌++◌, append-nil}
use mathlib.Core.Option.{Option, some}
use Prim.Native.Nat.{ℕ, suc, ◌+◌, ◌*◌, ◌/◌, ◌%◌, ◌^◌, ◌<◌}
use native.Mathlib.Omega.{arith}
use borrow.Author.Tests.{eq-eqb}
use lib.Dec.{eqb}
use lib.ListN.{length, get_or, take, drop, set}
use lib.Seq.{get_or-set_other}
use Rattle.crc.specs.Bits.{digit, bit, bits, number, bytes}
use Rattle.crc.specs.Crc.{crc, poly7}
use Rattle.crc.proofs.Bits.{digit_lt, bits-low, length-bits}
use Rattle.crc.proofs.Register.{length-crc}
use Rattle.codec.specs.Answer.{done}
use Rattle.codec.specs.Layout.{write}
use Rattle.codec.specs.Format.{Format, crc7_from, ended, image}
use Rattle.codec.proofs.Bits.{bits_of_lem}
use Rattle.codec.proofs.RoundTrip.{length-image}
use Rattle.wire_response.specs.Response as Wire
use Rattle.wire_response.specs.Status.{short_status}
use Rattle.card.specs.Status.{shown}
use Rattle.card.specs.Frame.{Message, silence, r1, r6, spi_r1, plain, block, token, finished}
use Rattle.card.specs.Step.{command_frame, sent, wire, reply_of}
use Rattle.card.specs.History.{carrier, masked, unless_none, masked_r1, hidden_sd, hidden}
use Rattle.card.proofs.Words.{Free, bits-shown}
use Rattle.card.proofs.Mask.{masked-bytes}
use Rattle.card.proofs.Messages.{FreeR1, Clean, Stateless, lead_byte}

-- what a call writes: the message as a prefix of the buffer
abbrev pub written : Bool → Message → List ℕ → List ℕ
written crc m out = wire crc m ++ drop (length (wire crc m)) out

-- ---- a format of six bytes whose bits are xs, one bit at the top of byte n, and ys: what is left without that bit and the check

length-check : (bs : List Bool) → length (crc poly7 bs) ≡ 7
unfolding poly7
length-check bs = length-crc poly7 (omega (arith, length-bits 7 9)) bs ∙ length-bits 7 9

module _
    (f : Format) (n m : ℕ) (xs ys : List Bool) (z : f.size ≡ 6) (e : f.ending ≡ crc7_from 0) (hx : length xs ≡ 8 * n) (hy : length ys ≡ 7 + 8 * m)
    (h : n + m ≡ 4) (out : List ℕ)
  where
    masked-image : (vs : List ℕ) (b : Bool) → write f.slots vs ≡ xs ++ (b ∷ ys)
        → masked n (image f vs ++ drop (length (image f vs)) out) ≡ bytes n xs ++ (number (take 7 ys) ∷ (bytes m (drop 7 ys) ++ (1 ∷ drop 6 out)))
    unfolding image ended
    masked-image vs b q =
        ap (λ (k : ℕ). masked n (image f vs ++ drop k out)) (length-image f vs ∙ z)
        ∙ ap₂ (λ (k : ℕ) (x : List Bool). masked n (bytes k (x ++ ended f.ending x) ++ drop 6 out)) z q
        ∙ ap (λ end. masked n (bytes 6 ((xs ++ (b ∷ ys)) ++ ended end (xs ++ (b ∷ ys))) ++ drop 6 out)) e
        ∙ masked-bytes n m xs ys (crc poly7 (xs ++ (b ∷ ys))) b (drop 6 out) hx hy h (length-check (xs ++ (b ∷ ys)))

    masked_same : (us vs : List ℕ) (b c : Bool) → write f.slots us ≡ xs ++ (b ∷ ys) → write f.slots vs ≡ xs ++ (c ∷ ys)
        → masked n (image f us ++ drop (length (image f us)) out) ≡ masked n (image f vs ++ drop (length (image f vs)) out)
    masked_same us vs b c p q = masked-image us b p ∙ sym (masked-image vs c q)

-- the first byte is not hidden
first-masked : (n : ℕ) (s : List ℕ) → get_or (masked (suc n) s) 0 0 ≡ get_or s 0 0
first-masked n s =
    get_or-set_other (set s (suc n) _) 5 0 _ 0 (λ q. let z : ◌≡◌ {A = ℕ} 0 5 = q in omega arith)
    ∙ get_or-set_other s (suc n) 0 _ 0 (λ q. let z : 0 ≡ suc n = q in omega arith)

-- six bytes that a frame gets, with COM_CRC_ERROR at the top of byte n
hidden-six : (n : ℕ) (frame : List ℕ) (low : Bool) (before s rest : List ℕ) → length s ≡ 6 → carrier (get_or (s ++ rest) 0 0) ≡ some n
    → hidden false (command_frame frame low before) (done (sent (length s))) (s ++ rest) ≡ masked n (s ++ rest)
unfolding hidden hidden_sd
hidden-six n frame low before s rest h e =
    ap₂ (λ (b : Bool) (o : Option ℕ). cond b (unless_none o (s ++ rest)) (cond (eqb (length s) 1) (masked_r1 (s ++ rest)) (s ++ rest))) (eq-eqb (length s) 6 h) e

-- ---- R1: start and transmission bit, index and status bits 31..24; COM_CRC_ERROR; status bits 22..0

head_r1 : ℕ → ℕ → List Bool
head_r1 index word = bits 1 0 ++ (bits 1 0 ++ (bits 6 index ++ bits 8 (word / 2 ^ 24)))

write-r1 : (index word : ℕ) (crc : Bool) → Free word
    → write (Wire.r1 index).slots (shown crc word ∷ []) ≡ head_r1 index word ++ (bit (shown crc word) 23 ∷ bits 23 word)
unfolding write bits head_r1
write-r1 index word crc h =
    ap (λ (x : List Bool). bits 1 0 ++ (bits 1 0 ++ (bits 6 index ++ x))) (append-nil (bits 32 (shown crc word)) ∙ bits-shown crc word h)

module _ (index word : ℕ) (free : Free word) (told : carrier (lead_byte index) ≡ some 2) (frame : List ℕ) (low : Bool) (before out : List ℕ) where
  first-r1 : (p : Bool) → get_or (written p (r1 index word) out) 0 0 ≡ lead_byte index
  unfolding wire bits head_r1 bytes
  first-r1 p =
      sym (first-masked 1 (written p (r1 index word) out))
      ∙ ap (λ (s : List ℕ). get_or s 0 0)
      (masked-image (Wire.r1 index) 2 2 (head_r1 index word) (bits 23 word) refl refl refl refl refl out _ _ (write-r1 index word p free))

  seen-r1 : (p : Bool)
      → hidden false (command_frame frame low before) (done (reply_of p (r1 index word))) (written p (r1 index word) out) ≡ masked 2 (written p (r1 index word) out)
  unfolding reply_of wire
  seen-r1 p =
      let s = wire p (r1 index word) in
      hidden-six 2 frame low before s (drop (length s) out) (length-image (Wire.r1 index) (shown p word ∷ [])) (ap carrier (first-r1 p) ∙ told)

  hidden-r1 : (p q : Bool)
      → hidden false (command_frame frame low before) (done (reply_of p (r1 index word))) (written p (r1 index word) out)
      ≡ hidden false (command_frame frame low before) (done (reply_of q (r1 index word))) (written q (r1 index word) out)
  unfolding wire bits head_r1
  hidden-r1 p q =
      seen-r1 p
      ∙ masked_same (Wire.r1 index) 2 2 (head_r1 index word) (bits 23 word) refl refl refl refl refl out
      _ _ _ _ (write-r1 index word p free) (write-r1 index word q free)
      ∙ sym (seen-r1 q)

-- ---- R6: start and transmission bit, index and RCA; COM_CRC_ERROR; status bits 22, 19 and 12..0

head_r6 : ℕ → List Bool
head_r6 rca = bits 1 0 ++ (bits 1 0 ++ (bits 6 3 ++ bits 16 rca))

tail_r6 : List Bool → List Bool
tail_r6 low = get_or low 0 false ∷ (get_or low 3 false ∷ drop 10 low)

write-r6 : (rca word : ℕ) (crc : Bool)
    → write (Wire.r6).slots (rca ∷ (short_status (shown crc word) ∷ [])) ≡ head_r6 rca ++ (bit (shown crc word) 23 ∷ tail_r6 (bits 23 word))
unfolding write bits head_r6 tail_r6 short_status
write-r6 rca word crc =
    let w : ℕ = shown crc word in
    ap (λ (x : List Bool). bits 1 0 ++ (bits 1 0 ++ (bits 6 3 ++ (bits 16 rca ++ x))))
    (append-nil (bits 16 (short_status w))
    ∙ bits_of_lem 16 (bit w 23 ∷ (bit w 22 ∷ (bit w 19 ∷ bits 13 w))) refl
    ∙ ap (λ (low : List Bool). bit w 23 ∷ tail_r6 low) (bits-low 23 (digit crc) word))

module _ (rca word : ℕ) (frame : List ℕ) (low : Bool) (before out : List ℕ) where
  first-r6 : (p : Bool) → get_or (written p (r6 rca word) out) 0 0 ≡ 3
  unfolding wire bits number head_r6 tail_r6 bytes
  first-r6 p =
      sym (first-masked 2 (written p (r6 rca word) out))
      ∙ ap (λ (s : List ℕ). get_or s 0 0)
      (masked-image Wire.r6 3 1 (head_r6 rca) (tail_r6 (bits 23 word)) refl refl refl refl refl out _ _ (write-r6 rca word p))

  seen-r6 : (p : Bool)
      → hidden false (command_frame frame low before) (done (reply_of p (r6 rca word))) (written p (r6 rca word) out) ≡ masked 3 (written p (r6 rca word) out)
  unfolding reply_of wire carrier
  seen-r6 p =
      let s = wire p (r6 rca word) in
      hidden-six 3 frame low before s (drop (length s) out) (length-image Wire.r6 (rca ∷ (short_status (shown p word) ∷ []))) (ap carrier (first-r6 p))

  hidden-r6 : (p q : Bool)
      → hidden false (command_frame frame low before) (done (reply_of p (r6 rca word))) (written p (r6 rca word) out)
      ≡ hidden false (command_frame frame low before) (done (reply_of q (r6 rca word))) (written q (r6 rca word) out)
  unfolding wire bits head_r6 tail_r6
  hidden-r6 p q =
      seen-r6 p
      ∙ masked_same Wire.r6 3 1 (head_r6 rca) (tail_r6 (bits 23 word)) refl refl refl refl refl out
      _ _ _ _ (write-r6 rca word p) (write-r6 rca word q)
      ∙ sym (seen-r6 q)

-- ---- the R1 of the 0 that chooses SPI mode

-- what is left without bit 3
left-r1 : (high low : ℕ) (crc : Bool) → low < 8
    → (digit crc * 2 ^ 3 + (low + 16 * high)) / 16 * 16 + (digit crc * 2 ^ 3 + (low + 16 * high)) % 8 ≡ high * 16 + low
left-r1 high low crc h =
    let d : digit crc < 2 = digit_lt crc in
    let q : (digit crc * 2 ^ 3 + (low + 16 * high)) / 16 ≡ high = omega (arith, d, h) in
    let r : (digit crc * 2 ^ 3 + (low + 16 * high)) % 8 ≡ low = omega (arith, d, h) in
    ap₂ (λ (x y : ℕ). x * 16 + y) q r

masked-r1 : (byte : ℕ) (s : List ℕ) → FreeR1 byte s → (p q : Bool) (out : List ℕ)
    → masked_r1 (written p (spi_r1 byte s) out) ≡ masked_r1 (written q (spi_r1 byte s) out)
unfolding wire
masked-r1 byte s f p q out = ap (λ (x : ℕ). x ∷ (s ++ drop (suc (length s)) out)) (one p ∙ sym (one q))
  where
    one : (b : Bool) → (digit b * 2 ^ 3 + byte) / 16 * 16 + (digit b * 2 ^ 3 + byte) % 8 ≡ f.high * 16 + f.low
    one b = ap (λ (x : ℕ). (digit b * 2 ^ 3 + x) / 16 * 16 + (digit b * 2 ^ 3 + x) % 8) f.parts ∙ left-r1 f.high f.low b f.below

hidden-spi : (byte : ℕ) (s : List ℕ) → FreeR1 byte s → (frame : List ℕ) (low : Bool) (before out : List ℕ) (p q : Bool)
    → hidden false (command_frame frame low before) (done (reply_of p (spi_r1 byte s))) (written p (spi_r1 byte s) out)
    ≡ hidden false (command_frame frame low before) (done (reply_of q (spi_r1 byte s))) (written q (spi_r1 byte s) out)
unfolding hidden hidden_sd reply_of wire
hidden-spi byte s f frame low before out p q =
    seen p ∙ masked-r1 byte s f p q out ∙ sym (seen q)
  where
    seen : (b : Bool) → hidden false (command_frame frame low before) (done (reply_of b (spi_r1 byte s))) (written b (spi_r1 byte s) out) ≡ masked_r1 (written b (spi_r1 byte s) out)
    seen b = rw f.alone refl

-- ---- every message

pub hidden_same : (m : Message) → Clean m → (p q : Bool) (frame : List ℕ) (low : Bool) (before out : List ℕ)
    → hidden false (command_frame frame low before) (done (reply_of p m)) (written p m out) ≡ hidden false (command_frame frame low before) (done (reply_of q m)) (written q m out)
unfolding wire reply_of
hidden_same silence h p q frame low before out = refl
hidden_same (r1 index word) h p q frame low before out = hidden-r1 index word h.0 h.1 frame low before out p q
hidden_same (r6 rca word) h p q frame low before out = hidden-r6 rca word frame low before out p q
hidden_same (spi_r1 byte s) h p q frame low before out = hidden-spi byte s h frame low before out p q
hidden_same (plain s) h p q frame low before out = refl
hidden_same (block payload) h p q frame low before out = refl
hidden_same (token n) h p q frame low before out = refl
hidden_same finished h p q frame low before out = refl

pub wire_same : (m : Message) → Stateless m → (p q : Bool) → wire p m ≡ wire q m
unfolding wire
wire_same silence h p q = refl
wire_same (r1 index word) h p q = absurd h
wire_same (r6 rca word) h p q = absurd h
wire_same (spi_r1 byte s) h p q = absurd h
wire_same (plain s) h p q = refl
wire_same (block payload) h p q = refl
wire_same (token n) h p q = refl
wire_same finished h p q = refl

pub reply_same : (m : Message) (p q : Bool) → reply_of p m ≡ reply_of q m
unfolding reply_of wire
reply_same silence p q = refl
reply_same (r1 index word) p q =
    ap sent (length-image (Wire.r1 index) (shown p word ∷ []) ∙ sym (length-image (Wire.r1 index) (shown q word ∷ [])))
reply_same (r6 rca word) p q =
    ap sent (length-image Wire.r6 (rca ∷ (short_status (shown p word) ∷ [])) ∙ sym (length-image Wire.r6 (rca ∷ (short_status (shown q word) ∷ []))))
reply_same (spi_r1 byte s) p q = refl
reply_same (plain s) p q = refl
reply_same (block payload) p q = refl
reply_same (token n) p q = refl
reply_same finished p q = refl
