-- `short_status` puts bits 23, 22, 19 and 12..0 behind each other.
use mathlib.Core.Path.{◌≡◌, sym, ap, ap₂, ◌∙◌}
use mathlib.Core.Bool.{Bool}
use mathlib.Core.List.{List, ◌∷◌, ◌++◌}
use Prim.Native.Nat.{ℕ, ◌+◌, ◌*◌, ◌/◌, ◌%◌, ◌^◌, ◌<◌}
use native.Mathlib.Nat.{mod-mod, mod-eq_of_lt}
use native.Mathlib.Omega.{arith}
use lib.Bits.{bit_and, bit_or, and_mask, mask_lt, or_shifted}
use lib.Dec.{eqb}
use lib.Pow.{shr-shr}
use Rattle.crc.specs.Bits.{bit, bits, number}
use Rattle.crc.proofs.Bits.{number-bits, bits_cong, bits-join}
use Rattle.wire_response.specs.Status.{short_status}
use Rattle.wire_response.proofs.status.short_status.Goals as goal

-- the bits of a field that was taken out
bits-field : (w low n r : ℕ) → r ≡ n / 2 ^ low % 2 ^ w → bits w r ≡ bits w (n / 2 ^ low)
bits-field w low n r e = ap (bits w) e ∙ bits_cong w (n / 2 ^ low % 2 ^ w) (n / 2 ^ low) (mod-mod (n / 2 ^ low) (2 ^ w))

short : (n a b w r : ℕ) → a ≡ n / 2 ^ 22 % 2 ^ 2 → b ≡ n / 2 ^ 19 % 2 ^ 1 → bits 3 w ≡ bits 2 a ++ bits 1 b → bits 16 r ≡ bits 3 w ++ bits 13 n
    → r % 2 ^ 16 ≡ short_status n
unfolding short_status bits
short n a b w r ha hb hw hr =
    sym (number-bits 16 r)
    ∙ ap number
    (hr
    ∙ ap (λ (x : List Bool). x ++ bits 13 n) (hw ∙ ap₂ (λ (x y : List Bool). x ++ y) (bits-field 2 22 n a ha) (bits-field 1 19 n b hb))
    ∙ ap (λ (x : ℕ). eqb (x % 2) 1 ∷ (eqb (n / 2 ^ 22 / 2 ^ 0 % 2) 1 ∷ (eqb (n / 2 ^ 19 / 2 ^ 0 % 2) 1 ∷ bits 13 n))) (shr-shr n 22 1)
    ∙ ap₂ (λ (x y : ℕ). bit n 23 ∷ (eqb (x % 2) 1 ∷ (eqb (y % 2) 1 ∷ bits 13 n))) (shr-shr n 22 0) (shr-shr n 19 0))

-- the three fields, put behind each other by shifts and masks
module _ (n : ℕ) where
  two : ℕ
  two = bit_and (n / 2 ^ 22) 3

  one : ℕ
  one = bit_and (n / 2 ^ 19) 1

  rest : ℕ
  rest = bit_and n 8191

  high : ℕ
  high = two * 2 + one

  high_is : bit_or (two * 2 % 2 ^ 32) one ≡ high
  unfolding high two one
  high_is =
      ap (λ (x : ℕ). bit_or x one) (mod-eq_of_lt {n = two * 2} (omega (arith, mask_lt (n / 2 ^ 22) 2)))
      ∙ or_shifted two 1 one (mask_lt (n / 2 ^ 19) 1)

  high_lt : high < 2 ^ 3
  unfolding high two one
  high_lt = omega (arith, mask_lt (n / 2 ^ 22) 2, mask_lt (n / 2 ^ 19) 1)

  word_is : bit_or (bit_or (two * 2 % 2 ^ 32) one * 8192 % 2 ^ 32) rest ≡ high * 2 ^ 13 + rest
  unfolding rest
  word_is =
      ap (λ (x : ℕ). bit_or (x * 8192 % 2 ^ 32) rest) high_is
      ∙ ap (λ (x : ℕ). bit_or x rest) (mod-eq_of_lt {n = high * 8192} (omega (arith, high_lt)))
      ∙ or_shifted high 13 rest (mask_lt n 13)

  word_lt : high * 2 ^ 13 + rest < 2 ^ 16
  unfolding rest
  word_lt = omega (arith, high_lt, mask_lt n 13)

  pub word_fits : bit_or (bit_or (bit_and (n / 2 ^ 22) 3 * 2 % 2 ^ 32) (bit_and (n / 2 ^ 19) 1) * 8192 % 2 ^ 32) (bit_and n 8191) < 2 ^ 16
  unfolding high two one rest
  word_fits = rw word_is word_lt

  pub word_right : bit_or (bit_or (bit_and (n / 2 ^ 22) 3 * 2 % 2 ^ 32) (bit_and (n / 2 ^ 19) 1) * 8192 % 2 ^ 32) (bit_and n 8191) ≡ short_status n
  unfolding high two one rest
  word_right =
      word_is
      ∙ sym (mod-eq_of_lt word_lt)
      ∙ short n two one high (high * 2 ^ 13 + rest) (and_mask (n / 2 ^ 22) 2) (and_mask (n / 2 ^ 19) 1)
      (bits-join 2 1 two one (mask_lt (n / 2 ^ 19) 1))
      (bits-join 3 13 high rest (mask_lt n 13) ∙ ap (λ (q : List Bool). bits 3 high ++ q) (ap (bits 13) (and_mask n 13) ∙ bits_cong 13 (n % 2 ^ 13) n (mod-mod n (2 ^ 13))))

pub returns : goal.returns
returns c = word_right c.args.status
