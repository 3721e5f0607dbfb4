-- Big-endian words, byte by byte: what a turn of the loops that read and write them does.
use mathlib.Core.Path.{◌≡◌, refl, sym, ap, ap₂, ◌∙◌}
use mathlib.Core.Bool.{Bool}
use mathlib.Core.List.{List, [], ◌∷◌, ◌++◌, append-nil}
use Prim.Native.Nat.{ℕ, zero, suc, ◌+◌, ◌-◌, ◌*◌, ◌/◌, ◌%◌, ◌^◌, ◌<◌, ◌≤◌, min}
use native.Mathlib.Nat.{zero-mod, mod-eq_of_lt, add_comm, div-one, zero-min, min-zero, suc-min-suc}
use native.Mathlib.Numerals.{add-one}
use native.Mathlib.Omega.{arith}
use lib.Bits.{bit_and, bit_or, and_mask}
use lib.ListN.{length, get_or, take, drop, set, length-set}
use lib.Pow.{mod-mod-pow, shr-shr}
use lib.Seq.{take-suc, drop-cons, get_or-set_same, drop-set-lt, take_all, lt-length-set, drop-length, drop-nil, set_at, append_snoc, length-take-le}
use Rattle.crc.specs.Bits.{bits, number, bits_of, bytes}
use Rattle.crc.proofs.Bits.{bits_of_append, number_append, number-bits, length-bits, bits-split, bytes_append}
use Rattle.codec.proofs.Masks.{placed, or_placed}

-- ---- reading

one_more : (s : List ℕ) (i : ℕ) → i < length s → get_or s i 0 < 256
    → number (bits_of (take (i + 1) s)) ≡ number (bits_of (take i s)) * 2 ^ 8 + get_or s i 0
unfolding bits_of
one_more s i h b =
    ap (λ (l : List ℕ). number (bits_of l)) (ap (λ (k : ℕ). take k s) (add-one i) ∙ take-suc s i 0 h)
    ∙ ap number (bits_of_append (take i s) (get_or s i 0 ∷ []))
    ∙ number_append (bits_of (take i s)) (bits 8 (get_or s i 0) ++ [])
    ∙ ap (λ (q : List Bool). number (bits_of (take i s)) * 2 ^ length q + number q) (append-nil (bits 8 (get_or s i 0)))
    ∙ ap₂ (λ (k n : ℕ). number (bits_of (take i s)) * 2 ^ k + n) (length-bits 8 (get_or s i 0)) (number-bits 8 (get_or s i 0) ∙ mod-eq_of_lt b)

-- the loop's head: of a run of bytes the first i are read, into a word of m + 8 bits
pub record Passed (m : ℕ) (s : List ℕ) (r i : ℕ) : Type 0 where
  pub within : i ≤ length s
  pub value : r ≡ number (bits_of (take i s)) % 2 ^ (m + 8)

module _ (m : ℕ) (s : List ℕ) where
  pub passed_none : Passed m s 0 0
  unfolding number bits_of
  passed_none = record { within = omega arith; value = sym (zero-mod (2 ^ (m + 8))) }

  pub passed-more : (r i : ℕ) → i < length s → get_or s i 0 < 256 → Passed m s r i
      → Passed m s (bit_or (r * 2 ^ 8 % 2 ^ (m + 8)) (get_or s i 0)) (i + 1)
  passed-more r i h b p =
      let n : ℕ = number (bits_of (take i s)) in
      let x : ℕ = get_or s i 0 in
      record {
        within = omega arith;
        value =
            or_placed m 8 r x b
            ∙ placed m 8 r x b
            ∙ ap (λ (y : ℕ). y % 2 ^ m * 2 ^ 8 + x) p.value
            ∙ ap (λ (k : ℕ). n % 2 ^ k % 2 ^ m * 2 ^ 8 + x) (add_comm m 8)
            ∙ ap (λ (y : ℕ). y * 2 ^ 8 + x) (mod-mod-pow n 8 m)
            ∙ sym (placed m 8 n x b)
            ∙ ap (λ (y : ℕ). y % 2 ^ (m + 8)) (sym (one_more s i h b));
      }

  pub passed_all : (r i : ℕ) → length s ≤ i → Passed m s r i → r ≡ number (bits_of s) % 2 ^ (m + 8)
  passed_all r i h p = p.value ∙ ap (λ (l : List ℕ). number (bits_of l) % 2 ^ (m + 8)) (take_all i s h)

-- ---- writing

-- a word's bytes, the first and the others
first_byte : (k value : ℕ) → bytes (k + 1) (bits (8 * (k + 1)) value) ≡ value / 2 ^ (8 * k) % 2 ^ 8 ∷ bytes k (bits (8 * k) value)
unfolding bytes
first_byte k value =
    let x : ℕ = value / 2 ^ (8 * k) in
    let e : 8 * (k + 1) ≡ 8 + 8 * k = omega arith in
    ap₂ (λ (a : ℕ) (q : List Bool). bytes a q) (add_comm k 1) (ap (λ (a : ℕ). bits a value) e ∙ bits-split 8 (8 * k) value)
    ∙ bytes_append 1 k (bits 8 x) (bits (8 * k) value) (length-bits 8 x)
    ∙ ap (λ (a : ℕ). a ∷ bytes k (bits (8 * k) value))
    (ap number (take_all 8 (bits 8 x) (omega (arith, length-bits 8 x))) ∙ number-bits 8 x)

-- what is written from the end, by one more byte
pub byte-written : (out : List ℕ) (i k value v : ℕ) → i < length out → v ≡ value / 2 ^ (8 * k)
    → drop (i + 1) out ≡ bytes k (bits (8 * k) value)
    → drop i (set out i (bit_and v 255)) ≡ bytes (k + 1) (bits (8 * (k + 1)) value)
byte-written out i k value v h e inv =
    drop-cons (set out i (bit_and v 255)) i 0 (lt-length-set out i (bit_and v 255) h)
    ∙ ap₂ (λ (a : ℕ) (q : List ℕ). a ∷ q)
    (get_or-set_same out i (bit_and v 255) 0 h ∙ and_mask v 8 ∙ ap (λ (x : ℕ). x % 2 ^ 8) e)
    (drop-set-lt (suc i) out i (bit_and v 255) (omega arith) ∙ ap (λ (a : ℕ). drop a out) (sym (add-one i)) ∙ inv)
    ∙ sym (first_byte k value)

-- the loop's head: of n bytes those from i on are written, and v is what is left of the value
pub record Written (n value v i : ℕ) (out : List ℕ) : Type 0 where
  pub within : i ≤ n
  pub long : length out ≡ n
  pub left : v ≡ value / 2 ^ (8 * (n - i))
  pub tail : drop i out ≡ bytes (n - i) (bits (8 * (n - i)) value)

pub written_none : (out : List ℕ) (value : ℕ) → Written (length out) value value (length out) out
unfolding bytes
written_none out value =
    let e : length out - length out ≡ 0 = omega arith in
    record {
      within = omega arith;
      long = refl;
      left = sym (ap (λ (k : ℕ). value / 2 ^ (8 * k)) e ∙ div-one value);
      tail = drop-length out ∙ sym (ap (λ (k : ℕ). bytes k (bits (8 * k) value)) e);
    }

pub written-more : (n value v i : ℕ) (out : List ℕ) → 0 < i → Written n value v i out
    → Written n value (v / 2 ^ 8) (i - 1) (set out (i - 1) (bit_and v 255))
written-more n value v i out h w =
    let k : ℕ = n - i in
    let e : n - (i - 1) ≡ k + 1 = omega (arith, w.within) in
    let next : i - 1 + 1 ≡ i = omega arith in
    let p : 8 * (n - (i - 1)) ≡ 8 * k + 8 = omega (arith, w.within) in
    record {
      within = omega (arith, w.within);
      long = length-set out (i - 1) (bit_and v 255) ∙ w.long;
      left = ap (λ (x : ℕ). x / 2 ^ 8) w.left ∙ shr-shr value (8 * k) 8 ∙ ap (λ (x : ℕ). value / 2 ^ x) (sym p);
      tail =
          byte-written out (i - 1) k value v (omega (arith, w.within, w.long)) w.left
          (ap (λ (x : ℕ). drop x out) next ∙ w.tail)
          ∙ ap (λ (x : ℕ). bytes x (bits (8 * x) value)) (sym e);
    }

pub written_all : (n value v i : ℕ) (out : List ℕ) → i ≤ 0 → Written n value v i out → out ≡ bytes n (bits (8 * n) value)
written_all n value v zero out h w = w.tail ∙ ap (λ (k : ℕ). bytes k (bits (8 * k) value)) (omega arith)
written_all n value v (suc i) out h w = absurd (omega arith)

-- ---- copying

pub copied_more : (out s : List ℕ) (i : ℕ) → i < length out → i < length s
    → set (take i s ++ drop i out) i (get_or s i 0) ≡ take (i + 1) s ++ drop (i + 1) out
copied_more out s i ho hs =
    ap (λ (l : List ℕ). set (take i s ++ l) i (get_or s i 0)) (drop-cons out i 0 ho)
    ∙ set_at (take i s) (get_or out i 0) (drop (suc i) out) (get_or s i 0) i (length-take-le i s (omega arith))
    ∙ sym (append_snoc (take i s) (get_or s i 0) (drop (suc i) out))
    ∙ ap (λ (l : List ℕ). l ++ drop (suc i) out) (sym (take-suc s i 0 hs))
    ∙ ap (λ (k : ℕ). take k s ++ drop k out) (sym (add-one i))

take_min : (k : ℕ) (s : List ℕ) → take (min k (length s)) s ≡ take k s
take_min zero s = ap (λ (i : ℕ). take i s) (zero-min (length s))
take_min (suc k) [] = ap (λ (i : ℕ). take i []) (min-zero (suc k))
take_min (suc k) (x ∷ s) = ap (λ (i : ℕ). take i (x ∷ s)) (suc-min-suc k (length s)) ∙ ap (λ (l : List ℕ). x ∷ l) (take_min k s)

drop_min : (k : ℕ) (s : List ℕ) → drop (min (length s) k) s ≡ drop k s
drop_min k [] = drop-nil (min zero k) ∙ sym (drop-nil k)
drop_min zero (x ∷ s) = ap (λ (i : ℕ). drop i (x ∷ s)) (min-zero (suc (length s)))
drop_min (suc k) (x ∷ s) = ap (λ (i : ℕ). drop i (x ∷ s)) (suc-min-suc (length s) k) ∙ drop_min k s

pub copied_all : (out s : List ℕ) (n : ℕ) → n ≡ min (length out) (length s) → take n s ++ drop n out ≡ take (length out) s ++ drop (length s) out
copied_all out s n e =
    ap (λ (k : ℕ). take k s ++ drop k out) e ∙ ap₂ (λ (x y : List ℕ). x ++ y) (take_min (length out) s) (drop_min (length s) out)
