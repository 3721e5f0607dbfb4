-- The command frame: its first byte has start bit 0, transmission bit 1 and the index; its check comes after these.
use mathlib.Core.Path.{◌≡◌, refl, sym, ap, ap₂, ◌∙◌}
use mathlib.Core.Bool.{Bool, true, false, cond, not, ◌&&◌, ◌||◌, and-eq-true_iff, and-true, or-false}
use mathlib.Core.List.{List, [], ◌∷◌, ◌++◌}
use Prim.Native.Nat.{ℕ, ◌/◌, ◌%◌, ◌^◌, ◌<◌}
use native.Mathlib.Nat.{mod-eq_of_lt}
use native.Mathlib.Omega.{arith}
use borrow.Author.Tests.{eqb-true, eq-eqb, lt-ltb, ltb-true}
use lib.Bits.{bit_and, bit_or, and_mask, mask_lt, or_shifted}
use lib.Dec.{eqb, ltb}
use lib.ListN.{length, get_or, take, drop}
use Rattle.crc.specs.Bits.{bits, bits_of, Bytes}
use Rattle.crc.specs.Crc.{crc, poly7}
use Rattle.crc.proofs.Bits.{bits-join}
use Rattle.std.specs.Prelude.{Result, Err}
use Rattle.codec.specs.Answer.{done, refused, SIZE, WRONG, row_of}
use Rattle.codec.specs.Layout.{Slot, field, fixed, width, write, read, judged, fits}
use Rattle.codec.specs.Format.{right, encode, decode}
use Rattle.codec.proofs.Bits.{test_eq, both}
use Rattle.codec.proofs.Words.{within, judged_in, read_word, judged-word}
use Rattle.wire_frame.specs.Command.{command, good, frame_check, passed_over, frame_check_by, frame_outcome, refusal_of}
use Rattle.wire_frame.specs.Claims.{FrameDecoded, CheckedBy}
use Rattle.wire_frame.specs.Frame.{closing, encode_frame}
use Rattle.wire_frame.specs.declared.command.CommandFields.{CommandFields}
use Rattle.wire_frame.specs.declared.command.Fault.{Fault}
use Rattle.wire_frame.specs.declared.command.Fault.TheVariants.{Size, Start, Check}
use Rattle.wire_frame.proofs.Frames.{content, bits_of-first, content_lt, read-content, same-last, encode-framed, image-frame, right-frame}

-- ---- the first byte

first_byte : List Slot
first_byte = fixed 1 0 ∷ (fixed 1 1 ∷ (field 6 ∷ []))

start-byte : (b : ℕ) → b < 256 → judged_in first_byte 8 b ≡ eqb (b / 2 ^ 6) 1
unfolding judged_in first_byte
start-byte b h =
    let start = eqb (b / 2 ^ 7 % 2 ^ 1) 0 in
    let sent = eqb (b / 2 ^ 6 % 2 ^ 1) 1 in
    test_eq (judged_in first_byte 8 b) (eqb (b / 2 ^ 6) 1)
    (λ e.
    let (p, e1) = (and-eq-true_iff start (sent && true)).0 e in
    let (q, e2) = (and-eq-true_iff sent true).0 e1 in
    let p1 : b / 2 ^ 7 % 2 ^ 1 ≡ 0 = eqb-true (b / 2 ^ 7 % 2 ^ 1) 0 p in
    let q1 : b / 2 ^ 6 % 2 ^ 1 ≡ 1 = eqb-true (b / 2 ^ 6 % 2 ^ 1) 1 q in
    let b7 : b / 2 ^ 7 ≡ 0 = sym (mod-eq_of_lt {n = b / 2 ^ 7} (omega arith)) ∙ p1 in
    eq-eqb (b / 2 ^ 6) 1 (sym (mod-eq_of_lt {n = b / 2 ^ 6} (omega arith)) ∙ q1))
    (λ e.
    let e1 : b / 2 ^ 6 ≡ 1 = eqb-true (b / 2 ^ 6) 1 e in
    both (eq-eqb (b / 2 ^ 7 % 2 ^ 1) 0 (omega arith)) (both (eq-eqb (b / 2 ^ 6 % 2 ^ 1) 1 (omega arith)) refl))

judged-command : (s : List ℕ) → length s ≡ 6 → Bytes s → judged command.slots (bits_of s) ≡ eqb (get_or s 0 0 / 2 ^ 6) 1
unfolding width judged first_byte
judged-command s h b =
    ap (judged command.slots) (bits_of-first s (omega arith))
    ∙ judged-word first_byte (field 32 ∷ []) (get_or s 0 0) (bits_of (drop 1 s))
    ∙ and-true (judged_in first_byte 8 (get_or s 0 0))
    ∙ start-byte (get_or s 0 0) (b 0)

-- index and argument
read-command : (s : List ℕ) → length s ≡ 6 → read command.slots (bits_of s) ≡ bit_and (get_or s 0 0) 63 ∷ (content s ∷ [])
unfolding width within read first_byte
read-command s h =
    ap (read command.slots) (bits_of-first s (omega arith))
    ∙ read_word first_byte (field 32 ∷ []) (get_or s 0 0) (bits_of (drop 1 s))
    ∙ ap (λ (r : List ℕ). get_or s 0 0 / 2 ^ 0 % 2 ^ 6 ∷ r) (read-content (field 32 ∷ []) [] s refl h)
    ∙ ap₂ (λ (x y : ℕ). x ∷ (y ∷ []))
    (sym (and_mask (get_or s 0 0) 6 ∙ omega arith))
    (omega (arith, content_lt s h))

-- ---- the frame check

-- with checks on nothing is passed over; with checks off only what was no good
pub checked_by : CheckedBy
unfolding frame_check frame_check_by
checked_by = record { on = on; good = stays }
  where
    on : (s : List ℕ) → frame_check_by true s ≡ frame_check s
    on s =
        ap (λ (q : Bool). cond (eqb (length s) 6) (cond (judged command.slots (bits_of s)) (cond q (good (get_or (read command.slots (bits_of s)) 0 0) (get_or (read command.slots (bits_of s)) 1 0)) (Err Check)) (Err Start)) (Err Size))
        (or-false (right command s))

    cases : (t j q r : Bool) (k : Result CommandFields Fault) (index argument : ℕ)
        → cond t (cond j (cond q k (Err Check)) (Err Start)) (Err Size) ≡ good index argument
        → cond t (cond j (cond (q || r) k (Err Check)) (Err Start)) (Err Size) ≡ good index argument
    cases true true true r k index argument e = e
    cases true true false r k index argument e = cc
    cases true false q r k index argument e = cc
    cases false j q r k index argument e = cc

    stays : (checks : Bool) (s : List ℕ) (index argument : ℕ) → frame_check s ≡ good index argument → frame_check_by checks s ≡ good index argument
    stays checks s index argument e =
        cases (eqb (length s) 6) (judged command.slots (bits_of s)) (right command s) (passed_over checks s) _ index argument e

-- a check that is looked at only behind a right start
behind : (p q r : Bool) (k : Result CommandFields Fault)
    → cond p (cond ((p && q) || r) k (Err Check)) (Err Start) ≡ cond p (cond (q || r) k (Err Check)) (Err Start)
behind true q r k = refl
behind false q r k = refl

-- the command of six bytes
abbrev pub found : List ℕ → Result CommandFields Fault
found s = good (bit_and (get_or s 0 0) 63) (content s)

-- the last byte of six need not be right
abbrev pub passed : Bool → List ℕ → Bool
passed checks s = not checks && (not (eqb (bit_and (get_or s 0 0) 63) 8) && eqb (get_or s 5 0 % 2) 1)

module _ (checks : Bool) (s : List ℕ) (h : length s ≡ 6) (b : Bytes s) where
  pub frame_check-start : frame_check_by checks s ≡ cond (eqb (get_or s 0 0 / 2 ^ 6) 1) (cond (right command s || passed checks s) (found s) (Err Check)) (Err Start)
  unfolding frame_check_by
  frame_check-start =
      ap₂ (λ (t j : Bool). cond t (cond j (cond (right command s || passed_over checks s) (good (get_or (read command.slots (bits_of s)) 0 0) (get_or (read command.slots (bits_of s)) 1 0)) (Err Check)) (Err Start)) (Err Size))
      (eq-eqb (length s) 6 h) (judged-command s h b)
      ∙ ap (λ (fs : List ℕ). cond (eqb (get_or s 0 0 / 2 ^ 6) 1)
      (cond (right command s || (not checks && (not (eqb (get_or fs 0 0) 8) && eqb (get_or s 5 0 % 2) 1))) (good (get_or fs 0 0) (get_or fs 1 0)) (Err Check)) (Err Start))
      (read-command s h)

  pub frame_check-bytes : (c : ℕ) → c < 256 → bits 8 c ≡ crc poly7 (bits_of (take 5 s)) ++ (true ∷ [])
      → frame_check_by checks s ≡ cond (eqb (get_or s 0 0 / 2 ^ 6) 1) (cond (eqb (get_or s 5 0) c || passed checks s) (found s) (Err Check)) (Err Start)
  unfolding closing width
  frame_check-bytes c hc e =
      let p = eqb (get_or s 0 0 / 2 ^ 6) 1 in
      frame_check-start
      ∙ ap (λ (q : Bool). cond p (cond (q || passed checks s) (found s) (Err Check)) (Err Start))
      (right-frame command.slots s refl ∙ ap₂ (λ (t q : Bool). t && q) (judged-command s h b) (same-last true s c h b hc e))
      ∙ behind p (eqb (get_or s 5 0) c) (passed checks s) (found s)

-- the decoder answers by the check
pub frame-decoded : FrameDecoded
unfolding decode frame_check right read
frame-decoded s = go (eqb (length s) 6) (judged command.slots (bits_of s)) _
  where
    fs : List ℕ
    fs = read command.slots (bits_of s)

    go : (t j q : Bool) → frame_outcome (cond t (cond j (cond (j && q) (good (get_or fs 0 0) (get_or fs 1 0)) (Err Check)) (Err Start)) (Err Size))
        ≡ cond t (cond (j && q) (done fs) (refused WRONG)) (refused SIZE)
    go false j q = refl
    go true false q = refl
    go true true true = refl
    go true true false = refl

pub decode-checked : (s : List ℕ) (k : Result CommandFields Fault) → k ≡ frame_check s → frame_outcome k ≡ decode command s
decode-checked s k e = ap frame_outcome e ∙ frame-decoded s

pub decode-refused : (s : List ℕ) (f : Fault) → frame_check s ≡ Err f → refused (row_of (refusal_of f)) ≡ decode command s
decode-refused s f e = same_number f ∙ decode-checked s (Err f) (sym e)
  where
    same_number : (f : Fault) → refused (row_of (refusal_of f)) ≡ frame_outcome (Err f)
    same_number Size = refl
    same_number Start = refl
    same_number Check = refl

-- ---- encoding

write-command : (index argument : ℕ) → index < 64
    → write command.slots (index ∷ (argument ∷ [])) ≡ bits 8 (bit_or 64 (bit_and index 63)) ++ bits 32 argument
unfolding write bits
write-command index argument h =
    ap (λ (x : List Bool). x ++ bits 32 argument)
    (sym
    (ap (bits 8) (or_shifted 1 6 (bit_and index 63) (mask_lt index 6))
    ∙ bits-join 2 6 1 (bit_and index 63) (mask_lt index 6)
    ∙ ap (λ (x : ℕ). bits 2 1 ++ bits 6 x) (and_mask index 6 ∙ mod-eq_of_lt h)))

pub encode-command : (index argument : ℕ) (out : List ℕ) → argument < 2 ^ 32
    → encode command (index ∷ (argument ∷ [])) out ≡ encode_frame (ltb index 64) true (bit_or 64 (bit_and index 63)) argument out
unfolding fits
encode-command index argument out h =
    encode-framed command (index ∷ (argument ∷ [])) out (ltb index 64) true (bit_or 64 (bit_and index 63)) argument
    (simp (lt-ltb argument (2 ^ 32) h, and-true))
    (λ t. image-frame command.slots (index ∷ (argument ∷ [])) (bit_or 64 (bit_and index 63)) argument (write-command index argument (ltb-true index 64 t)))
