-- Shifts and masks of machine words of `size` bits, as the bits that they leave.
use mathlib.Core.Path.{◌≡◌, sym, ap, ap₂, ◌∙◌}
use mathlib.Core.Bool.{Bool}
use mathlib.Core.List.{List, ◌++◌}
use Prim.Native.Nat.{ℕ, ◌+◌, ◌-◌, ◌*◌, ◌/◌, ◌%◌, ◌^◌, ◌<◌, ◌≤◌}
use native.Mathlib.Nat.{one-mul, mul_assoc, mod-lt, mod-mod, mul-mod_left, add-zero, mod-eq_of_lt, div-eq_of_lt, lt_of_lt_of_le, zero-mod, sub-add_cancel, div-le_self, lt_of_le_of_lt}
use native.Mathlib.Omega.{arith}
use lib.Bits.{bit_and, bit_or, and_mask, or_shifted}
use lib.Pow.{pow-add, pow_pos, pow_mono, high, low, shl_exact, shl-shr, mod-pow-add, mod-mod-pow}
use Rattle.crc.specs.Bits.{bits}
use Rattle.crc.proofs.Bits.{bits_cong, bits-join}
use Rattle.codec.specs.Word.{joined}

module _ (size : ℕ) where
  -- a one shifted within a word
  one_shifted : (w : ℕ) → w < size → 1 * 2 ^ w % 2 ^ size ≡ 2 ^ w
  one_shifted w h = shl_exact 1 w size (omega arith) (omega arith) ∙ one-mul (2 ^ w)

  pub mask_room : (w : ℕ) → w < size → 1 ≤ 1 * 2 ^ w % 2 ^ size
  mask_room w h = rw (one_shifted w h) (pow_pos w)

  pub masked : (n w : ℕ) → w < size → bit_and n (1 * 2 ^ w % 2 ^ size - 1) ≡ n % 2 ^ w
  masked n w h = ap (λ (m : ℕ). bit_and n (m - 1)) (one_shifted w h) ∙ and_mask n w

  -- nothing is left of a word that is shifted out
  pub shifted-out : (n k w : ℕ) → n < 2 ^ size → size ≤ k → 0 ≡ n / 2 ^ k % 2 ^ w
  shifted-out n k w h hk = sym (ap (λ (x : ℕ). x % 2 ^ w) (div-eq_of_lt (lt_of_lt_of_le h (pow_mono hk))) ∙ zero-mod (2 ^ w))

  -- no mask is wanted as wide as the word
  pub unmasked : (n k w : ℕ) → n < 2 ^ size → size ≤ w → n / 2 ^ k ≡ n / 2 ^ k % 2 ^ w
  unmasked n k w h hw = sym (mod-eq_of_lt (lt_of_le_of_lt (div-le_self n (2 ^ k)) (lt_of_lt_of_le h (pow_mono hw))))

-- a shift up loses what does not fit
pub shifted : (n j k : ℕ) → n * 2 ^ k % 2 ^ (j + k) ≡ n % 2 ^ j * 2 ^ k
shifted n j k =
    mod-pow-add (n * 2 ^ k) j k
    ∙ ap₂ (λ (a b : ℕ). a % 2 ^ j * 2 ^ k + b) (shl-shr n k) (mul-mod_left n (2 ^ k))
    ∙ add-zero (n % 2 ^ j * 2 ^ k)

-- bits b behind those of n, in a word of j + k bits
module _ (j k n b : ℕ) (h : b < 2 ^ k) where
  pub placed : (n * 2 ^ k + b) % 2 ^ (j + k) ≡ n % 2 ^ j * 2 ^ k + b
  placed = mod-pow-add (n * 2 ^ k + b) j k ∙ ap₂ (λ (x y : ℕ). x % 2 ^ j * 2 ^ k + y) (high n k h) (low n k h)

  pub or_placed : bit_or (n * 2 ^ k % 2 ^ (j + k)) b ≡ (n * 2 ^ k + b) % 2 ^ (j + k)
  or_placed = ap (λ (x : ℕ). bit_or x b) (shifted n j k) ∙ or_shifted (n % 2 ^ j) k b h ∙ sym placed

-- ---- `joined`, by shifts and masks

module _ (size w n m : ℕ) where
  pub join-within : w < size → bit_or (n * 2 ^ w % 2 ^ size) (bit_and m (1 * 2 ^ w % 2 ^ size - 1)) ≡ joined size n w m
  unfolding joined
  join-within h =
      let e : size ≡ size - w + w = omega arith in
      ap₂ (λ (x y : ℕ). bit_or (n * 2 ^ w % 2 ^ x) y) e (masked size m w h)
      ∙ or_placed (size - w) w n (m % 2 ^ w) (mod-lt m (pow_pos w))
      ∙ ap (λ (x : ℕ). (n * 2 ^ w + m % 2 ^ w) % 2 ^ x) (sym e)

  -- as many bits as the word has leave no room above them
  pub join-whole : m < 2 ^ size → size ≤ w → m ≡ joined size n w m
  unfolding joined
  join-whole h hw =
      let e : n * 2 ^ w ≡ n * 2 ^ (w - size) * 2 ^ size =
      ap (λ (x : ℕ). n * 2 ^ x) (sym (sub-add_cancel hw))
      ∙ ap (λ (x : ℕ). n * x) (pow-add 2 (w - size) size)
      ∙ sym (mul_assoc n (2 ^ (w - size)) (2 ^ size)) in
      sym (ap₂ (λ (x y : ℕ). (x + y) % 2 ^ size) e (mod-eq_of_lt (lt_of_lt_of_le h (pow_mono hw))) ∙ low (n * 2 ^ (w - size)) size h)

shorter : (n m j : ℕ) → j ≤ m → n % 2 ^ m % 2 ^ j ≡ n % 2 ^ j
shorter n m j h = ap (λ (x : ℕ). n % 2 ^ x % 2 ^ j) (sym (sub-add_cancel h)) ∙ mod-mod-pow n (m - j) j

-- the bits of a joined word, as far as they fit
pub join-bits : (j size n w m r : ℕ) → r ≡ joined size n w m → j + w ≤ size → bits (j + w) r ≡ bits j n ++ bits w m
unfolding joined
join-bits j size n w m r e h =
    let b : ℕ = m % 2 ^ w in
    ap (bits (j + w)) e
    ∙ bits_cong (j + w) ((n * 2 ^ w + b) % 2 ^ size) (n * 2 ^ w + b) (shorter (n * 2 ^ w + b) size (j + w) h)
    ∙ bits-join j w n b (mod-lt m (pow_pos w))
    ∙ ap (λ (x : List Bool). bits j n ++ x) (bits_cong w b m (mod-mod m (2 ^ w)))
