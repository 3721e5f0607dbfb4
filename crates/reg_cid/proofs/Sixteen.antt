-- The sixteen bytes of CID and CSD: two words of content, and the byte of check and end bit.
use mathlib.Core.Path.{◌≡◌, refl, sym, ap, ap₂, ◌∙◌}
use mathlib.Core.Bool.{Bool, true, false, cond}
use mathlib.Core.List.{List, [], ◌∷◌, ◌++◌, append_assoc, append-nil}
use mathlib.Core.Option.{none, some}
use Prim.Native.Nat.{ℕ, ◌+◌, ◌*◌, ◌%◌, ◌^◌, ◌<◌, ◌≤◌}
use native.Mathlib.Nat.{mod-mod}
use native.Mathlib.Omega.{arith}
use borrow.Author.Tests.{eq-eqb, ne_eqb, eqb-true, eqb-false}
use lib.Dec.{eqb, lit≤}
use lib.ListN.{length, get_or, take, drop, set, length-append, length-drop, drop_of_length-le}
use lib.Pow.{mod-mod-pow}
use lib.Seq.{take_at, drop_at, set_at, drop-cons, drop-drop, length-take-le, take-append-le, drop-append-le}
use Rattle.crc.specs.Bits.{bits, number, bits_of, bytes}
use Rattle.crc.specs.Crc.{crc, poly7}
use Rattle.crc.proofs.Bits.{length-bits, length-bytes, bytes_append, bits_cong}
use Rattle.crc.specs.Detection.{same}
use Rattle.codec.specs.declared.Refusal.{Refusal}
use Rattle.codec.specs.Answer.{row_of, nonzero, done, refused, SIZE, WRONG}
use Rattle.codec.specs.Layout.{Slot, field, reserved, fixed, width, write, read, judged, fits}
use Rattle.codec.specs.Format.{Format, crc7_from, ended, image, right, encode, decode}
use Rattle.codec.proofs.Words.{right-ended, image-ended, bits_of-word}
use Rattle.codec.proofs.Slots.{behind}
use Rattle.reg_cid.proofs.Words.{filled}
use Rattle.reg_cid.specs.Content.{content, sixteen, emitted, verdict}

-- a register of sixteen bytes with a check
abbrev pub checked : List Slot → Format
checked slots = record { size = 16; slots = slots; ending = crc7_from 0 }

-- ---- the verdict

pub verdict_size : (s : List ℕ) → (length s ≡ 16 → ⊥) → SIZE ≡ verdict s
unfolding verdict
verdict_size s h = rw (ne_eqb (length s) 16 h)

module _ (s : List ℕ) (c : ℕ) (whole : length s ≡ 16) (byte : get_or s 15 0 < 256) (fit : c < 256)
    (seal : bits 8 c ≡ crc poly7 (bits_of (take 15 s)) ++ (true ∷ [])) where
  verdict-sealed : verdict s ≡ cond (eqb (get_or s 15 0) c) 0 WRONG
  unfolding verdict right judged width
  verdict-sealed =
      ap₂ (λ (p q : Bool). cond p (cond q 0 WRONG) SIZE)
      (eq-eqb (length s) 16 whole)
      (right-ended (checked (field 120 ∷ [])) s 15 0 c refl refl whole (lit≤ tt) byte fit seal)

  pub verdict_wrong : (get_or s 15 0 ≡ c → ⊥) → WRONG ≡ verdict s
  verdict_wrong h = sym (verdict-sealed ∙ ap (λ (p : Bool). cond p 0 WRONG) (ne_eqb (get_or s 15 0) c h))

  pub verdict_right : get_or s 15 0 ≡ c → 0 ≡ verdict s
  verdict_right h = sym (verdict-sealed ∙ ap (λ (p : Bool). cond p 0 WRONG) (eq-eqb (get_or s 15 0) c h))

-- ---- writing

module _ (first rest : ℕ) where
  length-content : length (content first rest) ≡ 120
  length-content = length-append (bits 64 first) (bits 56 rest) ∙ ap₂ ◌+◌ (length-bits 64 first) (length-bits 56 rest)

  bytes-content : bytes 15 (content first rest) ≡ bytes 8 (bits 64 first) ++ bytes 7 (bits 56 rest)
  bytes-content = bytes_append 8 7 (bits 64 first) (bits 56 rest) (length-bits 64 first)

  sixteen-sealed : (c : ℕ) → c < 256 → bits 8 c ≡ crc poly7 (bits_of (bytes 15 (content first rest))) ++ (true ∷ [])
      → sixteen first rest ≡ bytes 15 (content first rest) ++ (c ∷ [])
  unfolding sixteen image write width
  sixteen-sealed c h seal =
      let e : write (field 64 ∷ (field 56 ∷ [])) (first ∷ (rest ∷ [])) ≡ content first rest = ap (λ (x : List Bool). bits 64 first ++ x) (append-nil (bits 56 rest)) in
      rw e at (image-ended (checked (field 64 ∷ (field 56 ∷ []))) (first ∷ (rest ∷ [])) 15 0 c refl refl refl (lit≤ tt) h (rw e seal))

-- sixteen bytes with the first word's bytes p stored, then with the second's bytes q, then with the check c
module _ (out p q : List ℕ) (first rest c : ℕ) (room : length out ≡ 16) where
  abbrev once : List ℕ
  once = p ++ drop 8 out

  abbrev twice : List ℕ
  twice = take 8 once ++ (q ++ drop 7 (drop 8 once))

  module _ (hp : p ≡ bytes (length (take 8 out)) (bits (8 * length (take 8 out)) first))
      (hq : q ≡ bytes (length (take 7 (drop 8 once))) (bits (8 * length (take 7 (drop 8 once))) rest)) where
    p-is : p ≡ bytes 8 (bits 64 first)
    p-is = filled 8 first p (take 8 out) (length-take-le 8 out (omega arith)) hp

    length-p : length p ≡ 8
    length-p = ap length p-is ∙ length-bytes 8 (bits 64 first)

    past : drop 8 once ≡ drop 8 out
    past = drop_at p (drop 8 out) 8 length-p

    q-is : q ≡ bytes 7 (bits 56 rest)
    q-is =
        filled 7 rest q (take 7 (drop 8 once))
        (ap (λ (l : List ℕ). length (take 7 l)) past ∙ length-take-le 7 (drop 8 out) (omega (arith, length-drop 8 out)))
        hq

    both_are : p ++ q ≡ bytes 15 (content first rest)
    both_are = ap₂ (λ (x y : List ℕ). x ++ y) p-is q-is ∙ sym (bytes-content first rest)

    length_both : length (p ++ q) ≡ 15
    length_both = ap length both_are ∙ length-bytes 15 (content first rest)

    twice_is : twice ≡ (p ++ q) ++ get_or out 15 0 ∷ []
    twice_is =
        ap₂ (λ (x y : List ℕ). x ++ (q ++ y)) (take_at p (drop 8 out) 8 length-p)
        (ap (drop 7) past
        ∙ drop-drop 7 8 out
        ∙ drop-cons out 15 0 (omega arith)
        ∙ ap (λ (l : List ℕ). get_or out 15 0 ∷ l) (drop_of_length-le out {i = 16} (omega arith)))
        ∙ sym (append_assoc p q (get_or out 15 0 ∷ []))

    pub length-twice : length twice ≡ 16
    length-twice = ap length twice_is ∙ length-append (p ++ q) (get_or out 15 0 ∷ []) ∙ omega (arith, length_both)

    pub sealed : c < 256 → bits 8 c ≡ crc poly7 (bits_of (take 15 twice)) ++ (true ∷ []) → set twice 15 c ≡ sixteen first rest
    sealed h e =
        let t : take 15 twice ≡ bytes 15 (content first rest) =
        ap (take 15) twice_is ∙ take_at (p ++ q) (get_or out 15 0 ∷ []) 15 length_both ∙ both_are in
        ap (λ (l : List ℕ). set l 15 c) twice_is
        ∙ set_at (p ++ q) (get_or out 15 0) [] c 15 length_both
        ∙ ap (λ (l : List ℕ). l ++ (c ∷ [])) both_are
        ∙ sym (sixteen-sealed first rest c h (rw t at e))

pub sixteen-image : (slots : List Slot) (vs : List ℕ) (first rest : ℕ) → content first rest ≡ write slots vs
    → sixteen first rest ≡ image (checked slots) vs
unfolding sixteen image
sixteen-image slots vs first rest e = ap (λ (x : List Bool). bytes 16 (x ++ ended (crc7_from 0) x)) e

-- ---- what is emitted

pub emitted_encode : (fit : Bool) (first rest : ℕ) (out : List ℕ) (slots : List Slot) (vs : List ℕ) → fit ≡ fits slots vs → content first rest ≡ write slots vs
    → emitted fit first rest out ≡ encode (checked slots) vs out
unfolding emitted sixteen encode image
emitted_encode fit first rest out slots vs h e = rw (h, e)

-- ---- reading

-- a number that says which is that number, and none is said by 0 alone
told_by : (b : Bool) (k n : ℕ) → some k ≡ cond b none (some n) → (b ≡ false) × (k ≡ n)
told_by false k n e = (refl, cc)
told_by true k n e = let z : ◌≡◌ {A = ℕ} 0 1 = cc in absurd (omega arith)

none_by : (b : Bool) (n : ℕ) → none ≡ cond b none (some n) → b ≡ true
none_by true n e = refl
none_by false n e = let z : ◌≡◌ {A = ℕ} 0 1 = cc in absurd (omega arith)

told : (k n : ℕ) → some k ≡ nonzero n → (k ≡ n) × (n ≡ 0 → ⊥)
told k n e = let p = told_by (eqb n 0) k n e in (p.1, eqb-false n 0 p.0)

none_told : (n : ℕ) → none ≡ nonzero n → 0 ≡ n
none_told n e = sym (eqb-true n 0 (none_by (eqb n 0) n e))

verdict_whole : (s : List ℕ) → 0 ≡ verdict s → length s ≡ 16
verdict_whole s e = go (eqb (length s) 16) refl
  where
    go : (p : Bool) → eqb (length s) 16 ≡ p → length s ≡ 16
    go true h = eqb-true (length s) 16 h
    go false h = absurd (omega (arith, verdict_size s (eqb-false (length s) 16 h)))

bits_of-content : (s : List ℕ) → length s ≡ 16 → (a b : ℕ)
    → a ≡ number (bits_of (take 8 s)) % 2 ^ 64 → b ≡ number (bits_of (take 7 (drop 8 s))) % 2 ^ 64
    → bits_of s ≡ content a b ++ bits_of (drop 7 (drop 8 s))
bits_of-content s h a b ha hb =
    let m : ℕ = number (bits_of (take 8 s)) in
    let n : ℕ = number (bits_of (take 7 (drop 8 s))) in
    let rest : List Bool = bits_of (drop 7 (drop 8 s)) in
    bits_of-word 8 s (omega arith)
    ∙ ap (λ (x : List Bool). bits 64 m ++ x) (bits_of-word 7 (drop 8 s) (omega (arith, length-drop 8 s)))
    ∙ sym (append_assoc (bits 64 m) (bits 56 n) rest)
    ∙ ap₂ (λ (x y : List Bool). (x ++ y) ++ rest)
    (bits_cong 64 m a (sym (ap (λ (x : ℕ). x % 2 ^ 64) ha ∙ mod-mod m (2 ^ 64))))
    (bits_cong 56 n b (sym (ap (λ (x : ℕ). x % 2 ^ 56) hb ∙ mod-mod-pow n 8 56)))

-- a layout reads no further than it is wide
read_append : (slots : List Slot) (bs rest : List Bool) → width slots ≤ length bs → read slots (bs ++ rest) ≡ read slots bs
unfolding read width
read_append [] bs rest h = refl
read_append (field w ∷ slots) bs rest h =
    ap₂ (λ (x y : List Bool). number x ∷ read slots y) (take-append-le w bs rest (omega arith)) (drop-append-le w bs rest (omega arith))
    ∙ ap (λ (x : List ℕ). number (take w bs) ∷ x) (read_append slots (drop w bs) rest (behind w (width slots) bs h))
read_append (reserved w ∷ slots) bs rest h =
    ap (read slots) (drop-append-le w bs rest (omega arith)) ∙ read_append slots (drop w bs) rest (behind w (width slots) bs h)
read_append (fixed w v ∷ slots) bs rest h =
    ap (read slots) (drop-append-le w bs rest (omega arith)) ∙ read_append slots (drop w bs) rest (behind w (width slots) bs h)

module _ (slots : List Slot) (wide : width slots ≡ 120) (free : (bs : List Bool) → judged slots bs ≡ true) (s : List ℕ) where
  decode-verdict : decode (checked slots) s ≡ cond (eqb (verdict s) 0) (done (read slots (bits_of s))) (refused (verdict s))
  unfolding decode verdict right
  decode-verdict = rw (wide, free (bits_of s)) (go (eqb (length s) 16) (same (drop 120 (bits_of s)) (ended (crc7_from 0) (take 120 (bits_of s)))))
    where
      go : (p q : Bool) → cond p (cond q (done (read slots (bits_of s))) (refused WRONG)) (refused SIZE)
          ≡ cond (eqb (cond p (cond q 0 WRONG) SIZE) 0) (done (read slots (bits_of s))) (refused (cond p (cond q 0 WRONG) SIZE))
      go true true = refl
      go true false = refl
      go false true = refl
      go false false = refl

  pub decode_refused : (e : Refusal) → some (row_of e) ≡ nonzero (verdict s) → refused (row_of e) ≡ decode (checked slots) s
  decode_refused e h =
      let t = told (row_of e) (verdict s) h in
      ap refused t.0 ∙ sym (rw (ne_eqb (verdict s) 0 t.1) at decode-verdict)

  pub decode_fields : (a b : ℕ) → none ≡ nonzero (verdict s)
      → a ≡ number (bits_of (take 8 s)) % 2 ^ 64 → b ≡ number (bits_of (take 7 (drop 8 s))) % 2 ^ 64
      → done (read slots (content a b)) ≡ decode (checked slots) s
  decode_fields a b none_is ha hb =
      let e = none_told (verdict s) none_is in
      sym
      ((rw (eq-eqb (verdict s) 0 (sym e)) at decode-verdict)
      ∙ ap (λ (x : List Bool). done (read slots x)) (bits_of-content s (verdict_whole s e) a b ha hb)
      ∙ ap done (read_append slots (content a b) (bits_of (drop 7 (drop 8 s))) (omega (arith, wide, length-content a b))))
