-- Laws of `bits`, `number`, `bits_of` and `bytes`: a number and its bits, bytes and their bits.
use mathlib.Core.Path.{◌≡◌, refl, sym, ap, ap₂, ◌∙◌}
use mathlib.Core.Bool.{Bool, true, false}
use mathlib.Core.List.{List, [], ◌∷◌, ◌++◌, append_assoc}
use Prim.Native.Nat.{ℕ, zero, suc, ◌+◌, ◌*◌, ◌/◌, ◌%◌, ◌^◌, ◌<◌, ◌≤◌}
use native.Mathlib.Nat.{add_comm, suc-add, mod-lt, mod-eq_of_lt, zero-add, mul-suc, mod-one, mul-add-mod_self_right}
use native.Mathlib.Numerals.{one-add}
use native.Mathlib.Omega.{arith}
use lib.Arith.{digits_lt}
use lib.Dec.{eqb}
use lib.ListN.{length, take, drop, length-append, length-drop, take-append-drop}
use lib.Pow.{pow-add, shr-shr, high, field, mod-mod-pow, mod-pow-add}
use lib.Seq.{take_at, drop_at, length-take-le, take-append-le, drop-append-le}
use Rattle.crc.specs.Bits.{digit, bit, bits, number, Bytes, bits_of, bytes}

-- ---- a number and its bits

pub length-bits : (w n : ℕ) → length (bits w n) ≡ w
unfolding bits
length-bits zero n = refl
length-bits (suc w) n = ap suc (length-bits w n)

digit-eqb : (x : ℕ) → x < 2 → digit (eqb x 1) ≡ x
digit-eqb zero h = refl
digit-eqb (suc zero) h = refl
digit-eqb (suc (suc x)) h = absurd (omega arith)

pub digit-bit : (n i : ℕ) → digit (bit n i) ≡ n / 2 ^ i % 2
digit-bit n i = digit-eqb (n / 2 ^ i % 2) (mod-lt (n / 2 ^ i) (omega arith))

pub digit_lt : (b : Bool) → digit b < 2
digit_lt true = omega arith
digit_lt false = omega arith

pub eqb-digit : (b : Bool) → eqb (digit b % 2) 1 ≡ b
eqb-digit true = refl
eqb-digit false = refl

pub number-bits : (w n : ℕ) → number (bits w n) ≡ n % 2 ^ w
unfolding bits number
number-bits zero n = sym (mod-one n)
number-bits (suc w) n =
    ap₂ (λ (d l : ℕ). d * 2 ^ l + number (bits w n)) (digit-bit n w) (length-bits w n)
    ∙ ap (λ (x : ℕ). n / 2 ^ w % 2 * 2 ^ w + x) (number-bits w n)
    ∙ sym (mod-pow-add n 1 w)
    ∙ ap (λ (k : ℕ). n % 2 ^ k) (one-add w)

pub number_lt : (bs : List Bool) → number bs < 2 ^ length bs
unfolding number
number_lt [] = omega arith
number_lt (b ∷ bs) =
    let h : digit b * 2 ^ length bs + number bs < 2 * 2 ^ length bs = digits_lt (digit_lt b) (number_lt bs) in
    let e : 2 ^ (1 + length bs) ≡ 2 * 2 ^ length bs = pow-add 2 1 (length bs) in
    rw (← one-add (length bs), e) h

-- the w low bits of a number are those of its remainder
pub bits_cong : (w a b : ℕ) → a % 2 ^ w ≡ b % 2 ^ w → bits w a ≡ bits w b
unfolding bits
bits_cong zero a b e = refl
bits_cong (suc w) a b e =
    let e1 : a % 2 ^ (1 + w) ≡ b % 2 ^ (1 + w) = rw (one-add w) e in
    ap₂ (λ (x : ℕ) (r : List Bool). eqb x 1 ∷ r)
    (sym (field a 1 w) ∙ ap (λ (x : ℕ). x / 2 ^ w) e1 ∙ field b 1 w)
    (bits_cong w a b (sym (mod-mod-pow a 1 w) ∙ ap (λ (x : ℕ). x % 2 ^ w) e1 ∙ mod-mod-pow b 1 w))

pub bits-low : (w hi lo : ℕ) → bits w (hi * 2 ^ w + lo) ≡ bits w lo
bits-low w hi lo = bits_cong w (hi * 2 ^ w + lo) lo (mul-add-mod_self_right hi (2 ^ w) lo)

pub bits-number : (bs : List Bool) → bits (length bs) (number bs) ≡ bs
unfolding bits number
bits-number [] = refl
bits-number (b ∷ bs) =
    ap₂ {A = Bool} {B = List Bool} (λ (x : Bool) (r : List Bool). x ∷ r)
    (ap (λ (x : ℕ). eqb (x % 2) 1) (high (digit b) (length bs) (number_lt bs)) ∙ eqb-digit b)
    (bits-low (length bs) (digit b) (number bs) ∙ bits-number bs)

-- the bits of a number in two parts
pub bits-split : (j k n : ℕ) → bits (j + k) n ≡ bits j (n / 2 ^ k) ++ bits k n
unfolding bits
bits-split zero k n = ap (λ (x : ℕ). bits x n) (zero-add k)
bits-split (suc j) k n =
    ap (λ (x : ℕ). bits x n) (suc-add j k)
    ∙ ap₂ (λ (x : ℕ) (r : List Bool). eqb (x % 2) 1 ∷ r)
    (ap (λ (x : ℕ). n / 2 ^ x) (add_comm j k) ∙ sym (shr-shr n k j))
    (bits-split j k n)

pub bits-join : (j k hi lo : ℕ) → lo < 2 ^ k → bits (j + k) (hi * 2 ^ k + lo) ≡ bits j hi ++ bits k lo
bits-join j k hi lo h =
    bits-split j k (hi * 2 ^ k + lo)
    ∙ ap₂ (λ (x : ℕ) (r : List Bool). bits j x ++ r) (high hi k h) (bits-low k hi lo)

pub number_append : (xs ys : List Bool) → number (xs ++ ys) ≡ number xs * 2 ^ length ys + number ys
unfolding number
number_append [] ys = omega arith
number_append (x ∷ xs) ys =
    ap₂ (λ (a b : ℕ). digit x * a + b)
    (ap (λ (k : ℕ). 2 ^ k) (length-append xs ys) ∙ pow-add 2 (length xs) (length ys))
    (number_append xs ys)
    ∙ regroup (digit x) (2 ^ length xs) (2 ^ length ys) (number xs) (number ys)
  where
    regroup : (d a b m n : ℕ) → d * (a * b) + (m * b + n) ≡ (d * a + m) * b + n
    regroup d a b m n = omega arith

-- ---- bytes and their bits

pub bits_of_append : (s t : List ℕ) → bits_of (s ++ t) ≡ bits_of s ++ bits_of t
unfolding bits_of
bits_of_append [] t = refl
bits_of_append (b ∷ s) t = ap (λ (r : List Bool). bits 8 b ++ r) (bits_of_append s t) ∙ sym (append_assoc (bits 8 b) (bits_of s) (bits_of t))

pub length-bits_of : (s : List ℕ) → length (bits_of s) ≡ 8 * length s
unfolding bits_of
length-bits_of [] = refl
length-bits_of (b ∷ s) =
    length-append (bits 8 b) (bits_of s) ∙ ap₂ ◌+◌ (length-bits 8 b) (length-bits_of s) ∙ omega (arith, mul-suc 8 (length s))

pub bytes-bits_of : (s : List ℕ) → Bytes s → bytes (length s) (bits_of s) ≡ s
unfolding bytes bits_of
bytes-bits_of [] h = refl
bytes-bits_of (b ∷ s) h =
    ap₂ (λ (x : List Bool) (y : List Bool). number x ∷ bytes (length s) y)
    (take_at (bits 8 b) (bits_of s) 8 (length-bits 8 b))
    (drop_at (bits 8 b) (bits_of s) 8 (length-bits 8 b))
    ∙ ap₂ (λ (x : ℕ) (r : List ℕ). x ∷ r)
    (number-bits 8 b ∙ mod-eq_of_lt (h 0))
    (bytes-bits_of s (λ i. h (suc i)))

pub bits_of-bytes : (n : ℕ) (bs : List Bool) → length bs ≡ 8 * n → bits_of (bytes n bs) ≡ bs
unfolding bytes bits_of
bits_of-bytes zero [] h = refl
bits_of-bytes zero (b ∷ bs) h = absurd (omega arith)
bits_of-bytes (suc n) bs h =
    let e : length (take 8 bs) ≡ 8 = length-take-le 8 bs (omega arith) in
    let l : length (drop 8 bs) ≡ 8 * n = length-drop 8 bs ∙ omega arith in
    ap₂ (λ (x y : List Bool). x ++ y)
    (ap (λ (k : ℕ). bits k (number (take 8 bs))) (sym e) ∙ bits-number (take 8 bs))
    (bits_of-bytes n (drop 8 bs) l)
    ∙ take-append-drop 8 bs

pub length-bytes : (n : ℕ) (bs : List Bool) → length (bytes n bs) ≡ n
unfolding bytes
length-bytes zero bs = refl
length-bytes (suc n) bs = ap suc (length-bytes n (drop 8 bs))

-- whole words: n bytes of the 8n bits of a number, then the bytes of what follows
pub bytes_append : (n m : ℕ) (xs ys : List Bool) → length xs ≡ 8 * n → bytes (n + m) (xs ++ ys) ≡ bytes n xs ++ bytes m ys
unfolding bytes
bytes_append zero m [] ys h = ap (λ (k : ℕ). bytes k ys) (zero-add m)
bytes_append zero m (x ∷ xs) ys h = absurd (omega arith)
bytes_append (suc n) m xs ys h =
    let l : 8 ≤ length xs = omega arith in
    ap (λ (k : ℕ). bytes k (xs ++ ys)) (suc-add n m)
    ∙ ap₂ (λ (a : List Bool) (b : List Bool). number a ∷ bytes (n + m) b) (take-append-le 8 xs ys l) (drop-append-le 8 xs ys l)
    ∙ ap (λ (r : List ℕ). number (take 8 xs) ∷ r) (bytes_append n m (drop 8 xs) ys (length-drop 8 xs ∙ omega arith))
