-- Words of a register: what they hold as bits, what a layout reads of them, and their bytes.
use mathlib.Core.Path.{◌≡◌, refl, sym, ap, ap₂, ◌∙◌}
use mathlib.Core.Bool.{Bool, true, false}
use mathlib.Core.List.{List, [], ◌∷◌, ◌++◌, append_assoc, append-nil}
use Prim.Native.Nat.{ℕ, ◌+◌, ◌-◌, ◌*◌, ◌/◌, ◌%◌, ◌^◌, ◌≤◌}
use native.Mathlib.Omega.{arith}
use mir.Val.{bool_byte as from_bool}
use lib.Dec.{eqb}
use lib.ListN.{length, drop, length-append}
use lib.Pow.{shr-shr}
use lib.Seq.{take_at, drop_at}
use Rattle.crc.specs.Bits.{digit, bits, number, bytes}
use Rattle.crc.proofs.Bits.{length-bits, number-bits, number_append, bits-split, digit-bit}
use Rattle.codec.specs.Layout.{Slot, field, reserved, fixed, width, write, read}
use Rattle.codec.proofs.Words.{within, read_word}
use Rattle.reg_cid.specs.Content.{content}

pub bits_none : (n : ℕ) → bits 0 n ≡ []
unfolding bits
bits_none n = refl

pub write_append : (l m : List Slot) (vs ws : List ℕ) (bs : List Bool) → length (read l bs) ≡ length vs
    → write (l ++ m) (vs ++ ws) ≡ write l vs ++ write m ws
unfolding write read
write_append [] m [] ws bs h = refl
write_append [] m (v ∷ vs) ws bs h = absurd (omega arith)
write_append (field w ∷ l) m [] ws bs h = absurd (omega arith)
write_append (field w ∷ l) m (v ∷ vs) ws bs h =
    ap (λ (x : List Bool). bits w v ++ x) (write_append l m vs ws (drop w bs) (omega arith)) ∙ sym (append_assoc (bits w v) (write l vs) (write m ws))
write_append (reserved w ∷ l) m vs ws bs h =
    ap (λ (x : List Bool). bits w 0 ++ x) (write_append l m vs ws (drop w bs) h) ∙ sym (append_assoc (bits w 0) (write l vs) (write m ws))
write_append (fixed w v ∷ l) m vs ws bs h =
    ap (λ (x : List Bool). bits w v ++ x) (write_append l m vs ws (drop w bs) h) ∙ sym (append_assoc (bits w v) (write l vs) (write m ws))

-- ---- reading

-- what `put` leaves in a part of n bytes
pub filled : (n value : ℕ) (p part : List ℕ) → length part ≡ n → p ≡ bytes (length part) (bits (8 * length part) value)
    → p ≡ bytes n (bits (8 * n) value)
filled n value p part h e = e ∙ ap (λ (k : ℕ). bytes k (bits (8 * k) value)) h

pub read_one : (k : ℕ) (l : List Slot) (a : ℕ) → width l ≡ k → read l (bits k a) ≡ within l k a
unfolding read
read_one k l a h = rw (← h) (simp append-nil at (read_word l [] a []))

pub read_two : (l m : List Slot) (a b : ℕ) → width l ≡ 64 → width m ≡ 56 → read (l ++ m) (content a b) ≡ within l 64 a ++ within m 56 b
read_two l m a b hl hm =
    (rw hl at (read_word l m a (bits 56 b))) ∙ ap (λ (x : List ℕ). within l 64 a ++ x) (read_one 56 m b hm)

-- the fields of a word, of its high part
within-high : (l : List Slot) (k p n : ℕ) → width l ≤ k → within l k (n / 2 ^ p) ≡ within l (k + p) n
unfolding within width
within-high [] k p n h = refl
within-high (field w ∷ l) k p n h =
    let e : p + (k - w) ≡ k + p - w = omega arith in
    let d : k - w + p ≡ k + p - w = omega arith in
    ap₂ (λ (x : ℕ) (r : List ℕ). x % 2 ^ w ∷ r)
    (shr-shr n p (k - w) ∙ ap (λ (x : ℕ). n / 2 ^ x) e)
    (within-high l (k - w) p n (omega arith) ∙ ap (λ (x : ℕ). within l x n) d)
within-high (reserved w ∷ l) k p n h =
    let d : k - w + p ≡ k + p - w = omega arith in
    within-high l (k - w) p n (omega arith) ∙ ap (λ (x : ℕ). within l x n) d
within-high (fixed w v ∷ l) k p n h =
    let d : k - w + p ≡ k + p - w = omega arith in
    within-high l (k - w) p n (omega arith) ∙ ap (λ (x : ℕ). within l x n) d

-- a field that lies across the two words, p bits in the first and q in the second
module _ (l m : List Slot) (p q a b : ℕ) (first : width l + p ≡ 64) (rest : q + width m ≡ 56) where
  halves : List Bool
  halves = bits p a ++ bits q (b / 2 ^ width m)

  length-halves : length halves ≡ p + q
  unfolding halves
  length-halves = length-append (bits p a) (bits q (b / 2 ^ width m)) ∙ ap₂ ◌+◌ (length-bits p a) (length-bits q (b / 2 ^ width m))

  number-halves : number halves ≡ a % 2 ^ p * 2 ^ q + b / 2 ^ width m % 2 ^ q
  unfolding halves
  number-halves = number_append (bits p a) (bits q (b / 2 ^ width m)) ∙ simp (number-bits, length-bits)

  cut : content a b ≡ bits (width l) (a / 2 ^ p) ++ (halves ++ bits (width m) b)
  unfolding halves
  cut =
      ap₂ (λ (x y : List Bool). x ++ y)
      (ap (λ (k : ℕ). bits k a) (sym first) ∙ bits-split (width l) p a)
      (ap (λ (k : ℕ). bits k b) (sym rest) ∙ bits-split q (width m) b)
      ∙ simp append_assoc

  pub read-across : read (l ++ (field (p + q) ∷ m)) (content a b)
      ≡ within l 64 a ++ ((a % 2 ^ p * 2 ^ q + b / 2 ^ width m % 2 ^ q) ∷ within m (width m) b)
  unfolding read
  read-across =
      ap (read (l ++ (field (p + q) ∷ m))) cut
      ∙ read_word l (field (p + q) ∷ m) (a / 2 ^ p) (halves ++ bits (width m) b)
      ∙ ap₂ (λ (x y : List ℕ). x ++ y)
      (within-high l (width l) p a (omega arith) ∙ ap (λ (k : ℕ). within l k a) first)
      (ap₂ (λ (x y : List Bool). number x ∷ read m y) (take_at halves (bits (width m) b) (p + q) length-halves) (drop_at halves (bits (width m) b) (p + q) length-halves)
      ∙ ap₂ (λ (x : ℕ) (y : List ℕ). x ∷ y) number-halves (read_one (width m) m b refl))

-- ---- values

-- a bit that is cut out of a word, as a flag
pub flag-part : (n i r : ℕ) → r ≡ n / 2 ^ i % 2 → digit (eqb r 1) ≡ n / 2 ^ i % 2
flag-part n i r e = ap (λ (x : ℕ). digit (eqb x 1)) e ∙ digit-bit n i

pub cons : (x y : ℕ) (xs ys : List ℕ) → x ≡ y → xs ≡ ys → x ∷ xs ≡ y ∷ ys
cons x y xs ys e p = ap₂ (λ (a : ℕ) (l : List ℕ). a ∷ l) e p

-- a flag as a number
pub flag_digit : (b : Bool) → from_bool b ≡ digit b
flag_digit true = refl
flag_digit false = refl
