-- Hex digits, a byte at a time: what a turn of the loop that reads them does.
use mathlib.Core.Path.{◌≡◌, refl, sym, ap, ap₂, ◌∙◌}
use mathlib.Core.Bool.{Bool, true, false, ◌&&◌, and-false, and-eq-true_iff}
use mathlib.Core.List.{List, [], ◌∷◌, ◌++◌, append_assoc, append-nil}
use Prim.Native.Nat.{ℕ, zero, suc, ◌+◌, ◌*◌, ◌/◌, ◌%◌, ◌^◌, ◌<◌, ◌≤◌}
use native.Mathlib.Numerals.{add-one}
use native.Mathlib.Omega.{arith}
use borrow.Author.Tests.{eq-eqb, ne_eqb, ltb-true}
use lib.Bits.{bit_or, or_shifted}
use lib.Dec.{ltb}
use lib.ListN.{length, get_or, take, drop, set, drop_of_length-le}
use lib.Pow.{shl_exact}
use lib.Seq.{drop-cons, take_all, take-suc-set}
use Rattle.std.specs.List.{list_all}
use Rattle.std.specs.Simd.{first_chunks}
use Rattle.replay_read.specs.Hex.{hex, hex_value, all_hex, unhex, fills}

-- ---- lengths

pub length-hex : (s : List ℕ) → length (hex s) ≡ 2 * length s
unfolding hex
length-hex [] = refl
length-hex (b ∷ s) = omega (arith, length-hex s)

pub length-unhex : (n : ℕ) (s : List ℕ) → length s ≡ 2 * n → length (unhex s) ≡ n
unfolding unhex
length-unhex zero [] h = refl
length-unhex zero (x ∷ s) h = absurd (omega arith)
length-unhex (suc n) [] h = absurd (omega arith)
length-unhex (suc n) (x ∷ []) h = absurd (omega arith)
length-unhex (suc n) (x ∷ y ∷ s) h = ap suc (length-unhex n s (omega arith))

-- ---- two digits become a byte

pub byte-joined : (h l : ℕ) → h < 16 → l < 16 → bit_or (h * 2 ^ 4 % 2 ^ 8) l ≡ h * 16 + l
byte-joined h l p q = ap (λ (n : ℕ). bit_or n l) (shl_exact 4 4 8 p (omega arith)) ∙ or_shifted h 4 l q

-- each of them is a digit
pub digit_at : (s : List ℕ) (i : ℕ) → all_hex s ≡ true → i < length s → hex_value (get_or s i 0) < 16
unfolding all_hex
digit_at [] i h l = absurd (omega arith)
digit_at (c ∷ s) zero h l = ltb-true _ _ ((and-eq-true_iff _ _).0 h).0
digit_at (c ∷ s) (suc i) h l = digit_at s i ((and-eq-true_iff _ _).0 h).1 (omega arith)

module _ (s : List ℕ) (i : ℕ) where
  all_hex_at : i < length s → all_hex (drop i s) ≡ ltb (hex_value (get_or s i 0)) 16 && all_hex (drop (i + 1) s)
  unfolding all_hex
  all_hex_at h = rw (add-one i, drop-cons s i 0 h)

  -- whether all were digits so far, and the characters that are left
  pub all_hex-next : (right digit : Bool) → i < length s → digit ≡ ltb (hex_value (get_or s i 0)) 16
      → right && all_hex (drop i s) ≡ (right && digit) && all_hex (drop (i + 1) s)
  all_hex-next false digit h e = refl
  all_hex-next true digit h e = all_hex_at h ∙ ap (λ (b : Bool). b && all_hex (drop (i + 1) s)) (sym e)

  pub all_hex-end : (right : Bool) → length s ≤ i → right && all_hex (drop i s) ≡ right
  unfolding all_hex
  all_hex-end false h = refl
  all_hex-end true h = rw (drop_of_length-le s h)

chunk_at : (s : List ℕ) (k i : ℕ) → 2 * k ≤ length s → i < k
    → get_or (first_chunks 2 k s) i [] ≡ get_or s (2 * i) 0 ∷ get_or s (2 * i + 1) 0 ∷ []
chunk_at s zero i h l = absurd (omega arith)
chunk_at [] (suc k) i h l = absurd (omega arith)
chunk_at (x ∷ []) (suc k) i h l = absurd (omega arith)
chunk_at (x ∷ y ∷ s) (suc k) zero h l = refl
chunk_at (x ∷ y ∷ s) (suc k) (suc i) h l =
    let e : 2 * suc i ≡ suc (suc (2 * i)) = omega arith in
    let f : suc (suc (2 * i)) + 1 ≡ suc (suc (2 * i + 1)) = omega arith in
    rw (e, f) (chunk_at s k i (omega arith) (omega arith))

-- a pair of them, where it lies
pub pair_at : (s : List ℕ) (pairs : List (List ℕ)) (i : ℕ) → pairs ≡ first_chunks 2 (length s / 2) s → i < length s / 2
    → get_or pairs i [] ≡ get_or s (2 * i) 0 ∷ get_or s (2 * i + 1) 0 ∷ []
pair_at s pairs i e l = rw e (chunk_at s (length s / 2) i (omega arith) l)

module _ (digits : List ℕ) (i high low : ℕ) (room : 2 * i + 1 < length digits) (right : all_hex digits ≡ true)
    (eh : high ≡ hex_value (get_or digits (2 * i) 0)) (el : low ≡ hex_value (get_or digits (2 * i + 1) 0)) where
  rest : List ℕ
  rest = drop (2 * (i + 1)) digits

  pair : drop (2 * i) digits ≡ get_or digits (2 * i) 0 ∷ get_or digits (2 * i + 1) 0 ∷ rest
  unfolding rest
  pair =
      let e : 2 * (i + 1) ≡ suc (2 * i + 1) = omega arith in
      drop-cons digits (2 * i) 0 (omega arith)
      ∙ ap (λ (l : List ℕ). get_or digits (2 * i) 0 ∷ l)
      (ap (λ (n : ℕ). drop n digits) (sym (add-one (2 * i)))
      ∙ drop-cons digits (2 * i + 1) 0 room
      ∙ ap (λ (n : ℕ). get_or digits (2 * i + 1) 0 ∷ drop n digits) (sym e))

  pub unhex-more : (out : List ℕ) → i < length out → unhex digits ≡ take i out ++ unhex (drop (2 * i) digits)
      → unhex digits ≡ take (i + 1) (set out i (bit_or (high * 2 ^ 4 % 2 ^ 8) low)) ++ unhex (drop (2 * (i + 1)) digits)
  unfolding rest unhex
  unhex-more out ho inv =
      let byte : ℕ = bit_or (high * 2 ^ 4 % 2 ^ 8) low in
      let h : high < 16 = rw eh (digit_at digits (2 * i) right (omega arith)) in
      let l : low < 16 = rw el (digit_at digits (2 * i + 1) right room) in
      inv
      ∙ ap (λ (s : List ℕ). take i out ++ unhex s) pair
      ∙ ap₂ (λ (a b : ℕ). take i out ++ ((a * 16 + b) ∷ unhex rest)) (sym eh) (sym el)
      ∙ ap (λ (n : ℕ). take i out ++ (n ∷ unhex rest)) (sym (byte-joined high low h l))
      ∙ sym (append_assoc (take i out) (byte ∷ []) (unhex rest))
      ∙ ap (λ (s : List ℕ). s ++ unhex rest) (sym (ap (λ (n : ℕ). take n (set out i byte)) (add-one i) ∙ take-suc-set out i byte ho))

pub unhex_all : (digits : List ℕ) (i : ℕ) → length digits ≤ 2 * i → (out : List ℕ) → length out ≤ i
    → unhex digits ≡ take i out ++ unhex (drop (2 * i) digits) → out ≡ unhex digits
unfolding unhex
unhex_all digits i h out k inv =
    sym (inv ∙ ap (λ (l : List ℕ). take i out ++ unhex l) (drop_of_length-le digits h) ∙ append-nil (take i out) ∙ take_all i out k)

pub all_is : (s : List ℕ) → list_all (λ (c : ℕ). ltb (hex_value c) 16) s ≡ all_hex s
unfolding all_hex
all_is [] = refl
all_is (c ∷ s) = ap (λ (b : Bool). ltb (hex_value c) 16 && b) (all_is s)

-- ---- digits of just so many bytes

pub two_each : (n m : ℕ) → n / 2 ≡ m → n % 2 ≡ 0 → n ≡ 2 * m
two_each n m h e = omega arith

module _ (digits out : List ℕ) where
  fills-size : (length digits ≡ 2 * length out → ⊥) → false ≡ fills digits out
  fills-size n = sym (rw (ne_eqb (length digits) (2 * length out) n))

  pub fills-half : (length digits / 2 ≡ length out → ⊥) → false ≡ fills digits out
  fills-half n = fills-size (λ e. n (omega arith))

  pub fills-odd : (length digits % 2 ≡ 0 → ⊥) → false ≡ fills digits out
  fills-odd n = fills-size (λ e. n (omega arith))

  pub fills-wrong : false ≡ all_hex digits → false ≡ fills digits out
  fills-wrong a = sym (rw (sym a, and-false))

  pub fills-right : length digits ≡ 2 * length out → true ≡ all_hex digits → true ≡ fills digits out
  fills-right h a = sym (rw (eq-eqb (length digits) (2 * length out) h, sym a))
