-- The register in a machine word: what shifts, masks and xor on numbers do to the bits.
use mathlib.Core.Path.{◌≡◌, refl, sym, ap, ap₂, ◌∙◌}
use mathlib.Core.Bool.{Bool, true, false, xor}
use mathlib.Core.List.{List, [], ◌∷◌, ◌++◌}
use Prim.Native.Nat.{ℕ, zero, suc, ◌+◌, ◌-◌, ◌*◌, ◌/◌, ◌%◌, ◌^◌, ◌<◌, ◌≤◌}
use native.Mathlib.Nat.{mod-lt, add-zero, mod-mod, mod-eq_of_lt, div-eq_of_lt}
use native.Mathlib.Numerals.{add-one}
use native.Mathlib.Omega.{arith}
use borrow.Author.Tests.{eq-eqb, ne_eqb}
use lib.Bits.{bit_and, bit_xor, xor_shr, xor_mod, and_high}
use lib.Dec.{eqb}
use lib.ListN.{length, get_or, drop, replicate, length-append, drop_of_length-le}
use lib.Pow.{pow_pos}
use lib.Seq.{drop-cons}
use Rattle.crc.specs.Bits.{bit, bits, bits_of, number}
use Rattle.crc.specs.Crc.{◌⊕◌, shift, turns, run, poly7}
use Rattle.crc.proofs.Bits.{bits_cong, bits-join, length-bits, number-bits}
use Rattle.crc.proofs.Xor.{xor_nil, xor-zeros, append_xor_append, append_xor, length-xor}
use Rattle.crc.proofs.Register.{run_append, run-turns, length_shift}

low-xor : (u v : ℕ) → u < 2 → v < 2 → eqb (bit_xor u v) 1 ≡ xor (eqb u 1) (eqb v 1)
unfolding xor
low-xor zero zero hu hv = refl
low-xor zero (suc zero) hu hv = refl
low-xor (suc zero) zero hu hv = refl
low-xor (suc zero) (suc zero) hu hv = refl
low-xor zero (suc (suc v)) hu hv = absurd (omega arith)
low-xor (suc zero) (suc (suc v)) hu hv = absurd (omega arith)
low-xor (suc (suc u)) v hu hv = absurd (omega arith)

bit-xor : (a b i : ℕ) → bit (bit_xor a b) i ≡ xor (bit a i) (bit b i)
bit-xor a b i =
    ap (λ (x : ℕ). eqb (x % 2) 1) (xor_shr a b i)
    ∙ ap (λ (x : ℕ). eqb x 1) (xor_mod (a / 2 ^ i) (b / 2 ^ i) 1)
    ∙ low-xor (a / 2 ^ i % 2) (b / 2 ^ i % 2) (mod-lt (a / 2 ^ i) (omega arith)) (mod-lt (b / 2 ^ i) (omega arith))

pub bits-xor : (w a b : ℕ) → bits w (bit_xor a b) ≡ bits w a ⊕ bits w b
unfolding bits ◌⊕◌
bits-xor zero a b = refl
bits-xor (suc w) a b = ap₂ {A = Bool} {B = List Bool} (λ x r. x ∷ r) (bit-xor a b w) (bits-xor w a b)

bits-zero : (k : ℕ) → bits k 0 ≡ replicate k false
unfolding bits
bits-zero zero = refl
bits-zero (suc k) = ap₂ {A = Bool} {B = List Bool} (λ x r. x ∷ r) (ap (λ (x : ℕ). eqb (x % 2) 1) (div-eq_of_lt (pow_pos k))) (bits-zero k)

-- a word of v + k bits shifted by k places, without what left it
pub moved : (v k r : ℕ) → bits (v + k) (r * 2 ^ k % 2 ^ (v + k)) ≡ bits v r ++ replicate k false
moved v k r =
    bits_cong (v + k) (r * 2 ^ k % 2 ^ (v + k)) (r * 2 ^ k + 0) (mod-mod (r * 2 ^ k) (2 ^ (v + k)) ∙ ap (λ (x : ℕ). x % 2 ^ (v + k)) (sym (add-zero (r * 2 ^ k))))
    ∙ bits-join v k r 0 (pow_pos k)
    ∙ ap (λ (l : List Bool). bits v r ++ l) (bits-zero k)

up : (v r : ℕ) → bits (suc v) (r * 2 ^ 1 % 2 ^ suc v) ≡ bits v r ++ (false ∷ [])
up v r = ap (λ (k : ℕ). bits k (r * 2 ^ 1 % 2 ^ k)) (sym (add-one v)) ∙ moved v 1 r

-- one turn of a register of width v + 1 in a word of that width, by the bit that leaves it
pub shift_zero : (v q r : ℕ) → bit r v ≡ false → bits (suc v) (r * 2 ^ 1 % 2 ^ suc v) ≡ shift (bits (suc v) q) (bits (suc v) r)
unfolding bits shift
shift_zero v q r e = up v r ∙ sym (ap (λ (b : Bool). shift (bits (suc v) q) (b ∷ bits v r)) e)

pub shift_one : (v q r : ℕ) → bit r v ≡ true → bits (suc v) (bit_xor (r * 2 ^ 1 % 2 ^ suc v) q) ≡ shift (bits (suc v) q) (bits (suc v) r)
unfolding bits shift
shift_one v q r e =
    bits-xor (suc v) (r * 2 ^ 1 % 2 ^ suc v) q
    ∙ ap (λ (x : List Bool). x ⊕ bits (suc v) q) (up v r)
    ∙ sym (ap (λ (b : Bool). shift (bits (suc v) q) (b ∷ bits v r)) e)

-- the mask of the top bit
pub top-clear : (v r : ℕ) → bit_and r (2 ^ (1 + v) - 2 ^ v) ≡ 0 → bit r v ≡ false
top-clear v r e = ne_eqb (r / 2 ^ v % 2) 1 (λ h. omega (arith, pow_pos v, and_high r 1 v, ap (λ (x : ℕ). x * 2 ^ v) h))

one_of : (x : ℕ) → x < 2 → (x ≡ 0 → ⊥) → x ≡ 1
one_of x h k = omega arith

pub top_set : (v r : ℕ) → (bit_and r (2 ^ (1 + v) - 2 ^ v) ≡ 0 → ⊥) → bit r v ≡ true
top_set v r e =
    eq-eqb (r / 2 ^ v % 2) 1
    (one_of (r / 2 ^ v % 2) (mod-lt (r / 2 ^ v) (omega arith)) (λ h. e (and_high r 1 v ∙ ap (λ (x : ℕ). x * 2 ^ v) h ∙ omega arith)))

-- the polynomial of the CRC7 with the register one place up in its byte
pub poly7-up : bits 8 18 ≡ poly7 ++ (false ∷ [])
unfolding poly7 bits
poly7-up = refl

-- a turn of the loop over eight turns
pub turn_more : (p : List Bool) (w k q r : ℕ) (whole : List Bool) → k < 8 → bits w r ≡ shift p (bits w q)
    → turns p (8 - k) (bits w q) ≡ whole → turns p (8 - (k + 1)) (bits w r) ≡ whole
unfolding turns
turn_more p w k q r whole h e inv =
    let n : 8 - k ≡ suc (8 - (k + 1)) = omega arith in
    ap (turns p (8 - (k + 1))) e ∙ ap (λ (j : ℕ). turns p j (bits w q)) (sym n) ∙ inv

pub turns-none : (p : List Bool) (k : ℕ) (r whole : List Bool) → 8 ≤ k → turns p (8 - k) r ≡ whole → r ≡ whole
unfolding turns
turns-none p k r whole h e =
    let n : 8 - k ≡ 0 = omega arith in
    sym (ap (λ (j : ℕ). turns p j r) n) ∙ e

-- zeros behind what is added change nothing
xor_pad : (xs ys : List Bool) (k : ℕ) → length ys + k ≤ length xs → xs ⊕ (ys ++ replicate k false) ≡ xs ⊕ ys
unfolding ◌⊕◌
xor_pad xs [] k h = xor-zeros xs k (omega arith) ∙ sym (xor_nil xs)
xor_pad [] (y ∷ ys) k h = absurd (omega arith)
xor_pad (x ∷ xs) (y ∷ ys) k h = ap {B = List Bool} (λ r. xor x y ∷ r) (xor_pad xs ys k (omega arith))

-- a byte that enters at the top of a word, and eight turns
pub byte-enters : (w : ℕ) (p : List Bool) (r x b : ℕ) (rest : List Bool) → length p ≡ w → 8 ≤ w
    → bits w x ≡ bits 8 b ++ replicate (w - 8) false
    → run p (bits w r) (bits 8 b ++ rest) ≡ run p (turns p 8 (bits w (bit_xor r x))) rest
byte-enters w p r x b rest hp h8 e =
    let l : length (bits 8 b) + (w - 8) ≤ length (bits w r) = simp length-bits (omega arith) in
    run_append p (bits w r) (bits 8 b) rest
    ∙ ap (λ (q : List Bool). run p q rest)
    (run-turns p (bits w r) (bits 8 b) (length-bits w r ∙ sym hp) (simp (length-bits, hp) h8)
    ∙ ap₂ (λ (k : ℕ) (q : List Bool). turns p k q) (length-bits 8 b)
    (sym (bits-xor w r x ∙ ap (λ (q : List Bool). bits w r ⊕ q) e ∙ xor_pad (bits w r) (bits 8 b) (w - 8) l)))

-- a turn of the loop over bytes: what is left to run stays the same check
pub byte-fed : (w : ℕ) (p : List Bool) (s : List ℕ) (i r x q : ℕ) (whole : List Bool) → length p ≡ w → 8 ≤ w → i < length s
    → bits w x ≡ bits 8 (get_or s i 0) ++ replicate (w - 8) false
    → bits w q ≡ turns p 8 (bits w (bit_xor r x))
    → run p (bits w r) (bits_of (drop i s)) ≡ whole
    → run p (bits w q) (bits_of (drop (i + 1) s)) ≡ whole
unfolding bits_of
byte-fed w p s i r x q whole hp h8 hi hx hq inv =
    ap₂ (λ (a : List Bool) (k : ℕ). run p a (bits_of (drop k s))) hq (add-one i)
    ∙ sym (byte-enters w p r x (get_or s i 0) (bits_of (drop (suc i) s)) hp h8 hx)
    ∙ ap (λ (l : List ℕ). run p (bits w r) (bits_of l)) (sym (drop-cons s i 0 hi))
    ∙ inv

-- where no byte is left, the register is the check
pub all-fed : (w : ℕ) (p : List Bool) (s : List ℕ) (i r : ℕ) (whole : List Bool) → r < 2 ^ w → length s ≤ i
    → run p (bits w r) (bits_of (drop i s)) ≡ whole → r ≡ number whole
unfolding bits_of run
all-fed w p s i r whole hr hi inv =
    sym (number-bits w r ∙ mod-eq_of_lt hr)
    ∙ ap number (sym (ap (λ (l : List ℕ). run p (bits w r) (bits_of l)) (drop_of_length-le s hi)) ∙ inv)

-- ---- a register one place up in its word

shift-up : (p r : List Bool) → length r ≡ length p → 1 ≤ length p → shift (p ++ (false ∷ [])) (r ++ (false ∷ [])) ≡ shift p r ++ (false ∷ [])
unfolding shift ◌⊕◌ xor
shift-up p [] h k = absurd (omega arith)
shift-up p (false ∷ r) h k = refl
shift-up p (true ∷ r) h k =
    append_xor_append (r ++ (false ∷ [])) p (false ∷ []) (false ∷ []) (length-append r (false ∷ []) ∙ omega arith)

-- it runs as the register itself
pub run_up : (p r m : List Bool) → length r ≡ length p → 1 ≤ length p
    → run (p ++ (false ∷ [])) (r ++ (false ∷ [])) m ≡ run p r m ++ (false ∷ [])
unfolding run
run_up p r [] h k = refl
run_up p r (b ∷ m) h k =
    let l : length (r ⊕ (b ∷ [])) ≡ length p = length-xor r (b ∷ []) (omega arith) ∙ h in
    ap (λ (q : List Bool). run (p ++ (false ∷ [])) q m)
    (ap (shift (p ++ (false ∷ []))) (append_xor r (b ∷ []) (false ∷ []) (omega arith))
    ∙ shift-up p (r ⊕ (b ∷ [])) l k)
    ∙ run_up p (shift p (r ⊕ (b ∷ []))) m (length_shift p (r ⊕ (b ∷ [])) l) k
