-- What stands behind the R1 of an R7.
use mathlib.Core.Path.{◌≡◌, refl, ap, ap₂, ◌∙◌}
use mathlib.Core.List.{List, [], ◌∷◌, ◌++◌}
use Prim.Native.Nat.{ℕ, ◌+◌, ◌*◌, ◌^◌, ◌<◌}
use native.Mathlib.Omega.{arith}
use Rattle.crc.specs.Bits.{bits, number, bytes}
use Rattle.crc.proofs.Bits.{bits-join, bytes_append, length-bits}
use Rattle.codec.proofs.Words.{byte-bits}

zeros : bytes 2 (bits 16 0) ≡ 0 ∷ (0 ∷ [])
unfolding bits bytes number
zeros = refl

-- the word of two bytes, high first
pub echoed : (v p : ℕ) → v < 256 → p < 256 → bytes 4 (bits 32 (v * 256 + p)) ≡ 0 ∷ (0 ∷ (v ∷ (p ∷ [])))
echoed v p h k =
    let low : v ≡ 0 * 2 ^ 8 + v = omega arith in
    ap (bytes 4) (bits-join 24 8 v p k)
    ∙ bytes_append 3 1 (bits 24 v) (bits 8 p) (length-bits 24 v)
    ∙ ap₂ (λ (x y : List ℕ). x ++ y)
    (ap (bytes 3) (ap (bits 24) low ∙ bits-join 16 8 0 v h)
    ∙ bytes_append 2 1 (bits 16 0) (bits 8 v) (length-bits 16 0)
    ∙ ap₂ (λ (x y : List ℕ). x ++ y) zeros (byte-bits v h))
    (byte-bits p k)
