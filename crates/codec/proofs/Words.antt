-- Laws that carry a format's definition to code on whole words, high byte first: fields by shifts and masks, the check as one byte.
use mathlib.Core.Path.{◌≡◌, sym, ap, ap₂, ◌∙◌}
use mathlib.Core.Bool.{Bool, true, ◌&&◌, and_assoc, and-true}
use mathlib.Core.List.{List, [], ◌∷◌, ◌++◌, append-nil}
use Prim.Native.Nat.{ℕ, suc, ◌+◌, ◌-◌, ◌*◌, ◌/◌, ◌%◌, ◌^◌, ◌<◌, ◌≤◌}
use native.Mathlib.Nat.{mod-eq_of_lt}
use native.Mathlib.Omega.{arith}
use lib.Dec.{eqb}
use lib.ListN.{length, get_or, take, drop, drop_of_length-le}
use lib.Seq.{take_all, length-take-le}
use Rattle.crc.specs.Bits.{bits, number, bits_of, bytes}
use Rattle.crc.specs.Crc.{crc, poly7}
use Rattle.crc.specs.Detection.{same}
use Rattle.crc.proofs.Bits.{length-bits, number-bits, length-bytes, bits_of-bytes, bytes_append, length-bits_of}
use Rattle.codec.specs.Layout.{Slot, field, reserved, fixed, width, write, read, judged}
use Rattle.codec.specs.Format.{Format, Ending, bare, crc7_from, ended, image, right}
use Rattle.codec.proofs.Bits.{bits_of_lem, number-take, drop_bits, bits_of-cut, length-bits_of_take, take-bits_of, drop-bits_of, bits_of-last, same_bits}
use Rattle.codec.proofs.Slots.{length-write}

-- ---- the slots of a word

-- the fields of the k low bits of n
unfoldable pub within : List Slot → ℕ → ℕ → List ℕ
within [] k n = []
within (field w ∷ slots) k n = (n / 2 ^ (k - w) % 2 ^ w) ∷ within slots (k - w) n
within (reserved w ∷ slots) k n = within slots (k - w) n
within (fixed w v ∷ slots) k n = within slots (k - w) n

-- the k low bits of n hold every fixed value
unfoldable pub judged_in : List Slot → ℕ → ℕ → Bool
judged_in [] k n = true
judged_in (field w ∷ slots) k n = judged_in slots (k - w) n
judged_in (reserved w ∷ slots) k n = judged_in slots (k - w) n
judged_in (fixed w v ∷ slots) k n = eqb (n / 2 ^ (k - w) % 2 ^ w) v && judged_in slots (k - w) n

module _ (m : List Slot) (j n : ℕ) (rest : List Bool) where
  read-within : (l : List Slot) (k : ℕ) → k ≡ width l + j → read (l ++ m) (bits k n ++ rest) ≡ within l k n ++ read m (bits j n ++ rest)
  unfolding read within width
  read-within [] k h = ap (λ (i : ℕ). read m (bits i n ++ rest)) (omega arith)
  read-within (field w ∷ l) k h =
      ap₂ {A = ℕ} {B = List ℕ} (λ x r. x ∷ r)
      (number-take w k n rest (omega arith))
      (ap (read (l ++ m)) (drop_bits w k n rest (omega arith)) ∙ read-within l (k - w) (omega arith))
  read-within (reserved w ∷ l) k h = ap (read (l ++ m)) (drop_bits w k n rest (omega arith)) ∙ read-within l (k - w) (omega arith)
  read-within (fixed w v ∷ l) k h = ap (read (l ++ m)) (drop_bits w k n rest (omega arith)) ∙ read-within l (k - w) (omega arith)

  judged-within : (l : List Slot) (k : ℕ) → k ≡ width l + j → judged (l ++ m) (bits k n ++ rest) ≡ judged_in l k n && judged m (bits j n ++ rest)
  unfolding judged judged_in width
  judged-within [] k h = ap (λ (i : ℕ). judged m (bits i n ++ rest)) (omega arith)
  judged-within (field w ∷ l) k h = ap (judged (l ++ m)) (drop_bits w k n rest (omega arith)) ∙ judged-within l (k - w) (omega arith)
  judged-within (reserved w ∷ l) k h = ap (judged (l ++ m)) (drop_bits w k n rest (omega arith)) ∙ judged-within l (k - w) (omega arith)
  judged-within (fixed w v ∷ l) k h =
      ap₂ (λ (x : ℕ) (b : Bool). eqb x v && b)
      (number-take w k n rest (omega arith))
      (ap (judged (l ++ m)) (drop_bits w k n rest (omega arith)) ∙ judged-within l (k - w) (omega arith))
      ∙ sym (and_assoc (eqb (n / 2 ^ (k - w) % 2 ^ w) v) (judged_in l (k - w) n) (judged m (bits j n ++ rest)))

pub read_word : (l m : List Slot) (n : ℕ) (rest : List Bool) → read (l ++ m) (bits (width l) n ++ rest) ≡ within l (width l) n ++ read m rest
unfolding bits
read_word l m n rest = read-within m 0 n rest l (width l) (omega arith)

pub judged-word : (l m : List Slot) (n : ℕ) (rest : List Bool) → judged (l ++ m) (bits (width l) n ++ rest) ≡ judged_in l (width l) n && judged m rest
unfolding bits
judged-word l m n rest = judged-within m 0 n rest l (width l) (omega arith)

-- the first n bytes as one word
pub bits_of-word : (n : ℕ) (s : List ℕ) → n ≤ length s → bits_of s ≡ bits (8 * n) (number (bits_of (take n s))) ++ bits_of (drop n s)
bits_of-word n s h =
    bits_of-cut n s h ∙ ap (λ (x : List Bool). x ++ bits_of (drop n s)) (sym (bits_of_lem (8 * n) (bits_of (take n s)) (length-bits_of_take n s h)))

-- ---- the check as one byte

-- the check of bytes from byte a on
ended-bytes : (e : Ending) (s : List ℕ) (a c : ℕ) → e ≡ crc7_from (8 * a) → a ≤ length s
    → bits 8 c ≡ crc poly7 (bits_of (drop a s)) ++ (true ∷ [])
    → ended e (bits_of s) ≡ bits 8 c
unfolding ended
ended-bytes e s a c he ha hc =
    ap (λ (x : Ending). ended x (bits_of s)) he
    ∙ ap (λ (x : List Bool). crc poly7 x ++ (true ∷ [])) (drop-bits_of a s ha)
    ∙ sym hc

pub right-ended : (f : Format) (s : List ℕ) (n a c : ℕ) → f.ending ≡ crc7_from (8 * a) → width f.slots ≡ 8 * n
    → length s ≡ suc n → a ≤ n → get_or s n 0 < 256 → c < 256
    → bits 8 c ≡ crc poly7 (bits_of (drop a (take n s))) ++ (true ∷ [])
    → right f s ≡ judged f.slots (bits_of s) && eqb (get_or s n 0) c
unfolding right
right-ended f s n a c he hw hs ha hb hc e =
    let h : n ≤ length s = omega arith in
    let l : length (take n s) ≡ n = length-take-le n s h in
    ap (λ (b : Bool). judged f.slots (bits_of s) && b)
    (ap₂ (λ (x y : List Bool). same x (ended f.ending y))
    (ap (λ (k : ℕ). drop k (bits_of s)) hw ∙ drop-bits_of n s h ∙ bits_of-last n s hs)
    (ap (λ (k : ℕ). take k (bits_of s)) hw ∙ take-bits_of n s h)
    ∙ ap (same (bits 8 (get_or s n 0))) (ended-bytes f.ending (take n s) a c he (omega arith) e)
    ∙ same_bits 8 (get_or s n 0) c hb hc)

pub byte-bits : (c : ℕ) → c < 256 → bytes 1 (bits 8 c) ≡ c ∷ []
unfolding bytes
byte-bits c h =
    ap (λ (x : List Bool). number x ∷ []) (take_all 8 (bits 8 c) (omega (arith, length-bits 8 c)))
    ∙ ap (λ (x : ℕ). x ∷ []) (number-bits 8 c ∙ mod-eq_of_lt h)

pub image-ended : (f : Format) (vs : List ℕ) (n a c : ℕ) → f.ending ≡ crc7_from (8 * a) → f.size ≡ n + 1 → width f.slots ≡ 8 * n
    → a ≤ n → c < 256
    → bits 8 c ≡ crc poly7 (bits_of (drop a (bytes n (write f.slots vs)))) ++ (true ∷ [])
    → image f vs ≡ bytes n (write f.slots vs) ++ (c ∷ [])
unfolding image
image-ended f vs n a c he hz hw ha hc e =
    let bs = write f.slots vs in
    let l : length bs ≡ 8 * n = length-write f.slots vs ∙ hw in
    ap₂ (λ (k : ℕ) (x : List Bool). bytes k (bs ++ x)) hz
    (ap (ended f.ending) (sym (bits_of-bytes n bs l))
    ∙ ended-bytes f.ending (bytes n bs) a c he (omega (arith, length-bytes n bs)) e)
    ∙ bytes_append n 1 bs (bits 8 c) l
    ∙ ap (λ (x : List ℕ). bytes n bs ++ x) (byte-bits c hc)

-- ---- no check

pub right-bare : (f : Format) (s : List ℕ) → f.ending ≡ bare → width f.slots ≡ 8 * length s → right f s ≡ judged f.slots (bits_of s)
unfolding right ended same
right-bare f s he hw =
    ap₂ (λ (x : List Bool) (e : Ending). judged f.slots (bits_of s) && same x (ended e (take (width f.slots) (bits_of s))))
    (drop_of_length-le (bits_of s) {i = width f.slots} (omega (arith, length-bits_of s)))
    he
    ∙ and-true (judged f.slots (bits_of s))

pub image-bare : (f : Format) (vs : List ℕ) → f.ending ≡ bare → image f vs ≡ bytes f.size (write f.slots vs)
unfolding image ended
image-bare f vs he =
    let bs = write f.slots vs in
    ap (λ (e : Ending). bytes f.size (bs ++ ended e bs)) he ∙ ap (bytes f.size) (append-nil bs)
