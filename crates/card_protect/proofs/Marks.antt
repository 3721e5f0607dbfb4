-- A bit of a byte made 1 or 0.
use mathlib.Core.Path.{◌≡◌, refl, sym, ap, ap₂, ◌∙◌}
use mathlib.Core.Bool.{Bool, true, false, not, beq}
use mathlib.Core.List.{List}
use Prim.Native.Nat.{ℕ, ◌+◌, ◌*◌, ◌/◌, ◌%◌, ◌^◌, ◌<◌, ◌≤◌}
use native.Mathlib.Nat.{div-add-mod', mod-lt, add-mul, add-zero, zero-div}
use native.Mathlib.Omega.{arith}
use lib.Bits.{bit_xor, xor_block, xor_step, xor_zero_r, differ}
use lib.ListN.{length, get_or-eq_default}
use lib.Dec.{eqb}
use lib.Pow.{pow_pos, shl_exact}
use Rattle.crc.specs.Bits.{bit, digit}
use Rattle.crc.proofs.Bits.{digit-bit}
use Rattle.card.specs.Protect.{put_bit, marked}

other : (b : Bool) → differ (digit b) 1 ≡ digit (not b)
other true = refl
other false = refl

-- a byte around its bit k: what is above, the bit, what is below
module _ (k byte : ℕ) where
  split : byte ≡ byte / 2 ^ k / 2 * 2 * 2 ^ k + digit (bit byte k) * 2 ^ k + byte % 2 ^ k
  split =
      let q : ℕ = byte / 2 ^ k in
      let e : q * 2 ^ k ≡ q / 2 * 2 * 2 ^ k + q % 2 * 2 ^ k = ap (λ (n : ℕ). n * 2 ^ k) (sym (div-add-mod' q 2)) ∙ add-mul (q / 2 * 2) (q % 2) (2 ^ k) in
      let d : digit (bit byte k) * 2 ^ k ≡ q % 2 * 2 ^ k = ap (λ (n : ℕ). n * 2 ^ k) (digit-bit byte k) in
      omega (arith, div-add-mod' byte (2 ^ k))

  flipped : k < 8 → bit_xor byte (1 * 2 ^ k % 2 ^ 8) ≡ bit_xor (byte / 2 ^ k) 1 * 2 ^ k + byte % 2 ^ k
  flipped h =
      ap₂ bit_xor (sym (div-add-mod' byte (2 ^ k))) (shl_exact {a = 1} 1 k 8 (omega arith) (omega arith) ∙ sym (add-zero (1 * 2 ^ k)))
      ∙ xor_block k (byte / 2 ^ k) 1 (byte % 2 ^ k) 0 (mod-lt byte (pow_pos k)) (pow_pos k)
      ∙ ap (λ (n : ℕ). bit_xor (byte / 2 ^ k) 1 * 2 ^ k + n) (xor_zero_r (byte % 2 ^ k))

  pub put-flipped : k < 8 → bit_xor byte (1 * 2 ^ k % 2 ^ 8) ≡ put_bit (not (bit byte k)) k byte
  put-flipped h =
      let b : Bool = bit byte k in
      let q : ℕ = byte / 2 ^ k in
      let x : bit_xor q 1 ≡ q / 2 * 2 + digit (not b) =
      xor_step q 1 ∙ ap₂ (λ (m n : ℕ). m * 2 + n) (xor_zero_r (q / 2)) (ap (λ (n : ℕ). differ n 1) (sym (digit-bit byte k)) ∙ other b) in
      let y : bit_xor q 1 * 2 ^ k ≡ q / 2 * 2 * 2 ^ k + digit (not b) * 2 ^ k = ap (λ (n : ℕ). n * 2 ^ k) x ∙ add-mul (q / 2 * 2) (digit (not b)) (2 ^ k) in
      omega (arith, split, flipped h)

pub beq-other : (a b : Bool) → beq a b ≡ false → b ≡ not a
beq-other true true e = e
beq-other true false e = refl
beq-other false true e = refl
beq-other false false e = sym e

pub past_marks : (marks : List ℕ) (group : ℕ) → length marks ≤ group / 8 → false ≡ marked marks group
past_marks marks group h =
    sym (ap (λ (byte : ℕ). bit byte (group % 8)) (get_or-eq_default marks 0 h) ∙ ap (λ (n : ℕ). eqb (n % 2) 1) (zero-div (2 ^ (group % 8))))
