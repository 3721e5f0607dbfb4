-- The 32 bits of content of the responses, as words that shifts build and take apart.
use mathlib.Core.Path.{◌≡◌, sym, ap, ◌∙◌}
use mathlib.Core.Bool.{Bool}
use mathlib.Core.List.{List, [], ◌∷◌, ◌++◌}
use Prim.Native.Nat.{ℕ, ◌+◌, ◌*◌, ◌/◌, ◌%◌, ◌^◌, ◌<◌}
use native.Mathlib.Omega.{arith}
use lib.Bits.{bit_or, or_shifted}
use lib.Pow.{shl_exact}
use Rattle.crc.specs.Bits.{bits}
use Rattle.crc.proofs.Bits.{bits-split, bits-join}
use Rattle.codec.specs.Layout.{field, reserved, write}

-- a high part shifted behind a low one
shifted_or : (j k a b : ℕ) → a < 2 ^ j → b < 2 ^ k → j + k < 33 → bits 32 (bit_or (a * 2 ^ k % 2 ^ 32) b) ≡ bits 32 (a * 2 ^ k + b)
shifted_or j k a b ha hb h = ap (λ (x : ℕ). bits 32 (bit_or x b)) (shl_exact j k 32 ha (omega arith)) ∙ ap (bits 32) (or_shifted a k b hb)

-- R6: address and short status
pub write-halves : (a b : ℕ) → a < 2 ^ 16 → b < 2 ^ 16
    → write (field 16 ∷ (field 16 ∷ [])) (a ∷ (b ∷ [])) ≡ bits 32 (bit_or (a * 2 ^ 16 % 2 ^ 32) b)
unfolding write bits
write-halves a b ha hb = sym (shifted_or 16 16 a b ha hb (omega arith) ∙ bits-join 16 16 a b hb)

-- R7: voltage and pattern
pub write-echo : (v p : ℕ) → v < 2 ^ 4 → p < 2 ^ 8
    → write (reserved 20 ∷ (field 4 ∷ (field 8 ∷ []))) (v ∷ (p ∷ [])) ≡ bits 32 (bit_or (v * 2 ^ 8 % 2 ^ 32) p)
unfolding write bits
write-echo v p hv hp =
    let high : v / 2 ^ 4 ≡ 0 = omega arith in
    sym
    (shifted_or 4 8 v p hv hp (omega arith)
    ∙ bits-join 24 8 v p hp
    ∙ ap (λ (x : List Bool). x ++ bits 8 p) (bits-split 20 4 v ∙ ap (λ (x : ℕ). bits 20 x ++ bits 4 v) high))
