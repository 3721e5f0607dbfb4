-- The byte behind a frame or register: seven bits of check and the end bit.
use mathlib.Core.Path.{◌≡◌, sym, ap, ap₂, ◌∙◌}
use mathlib.Core.Bool.{Bool, true}
use mathlib.Core.List.{List, [], ◌∷◌, ◌++◌}
use Prim.Native.Nat.{ℕ, ◌*◌, ◌%◌, ◌^◌, ◌<◌}
use native.Mathlib.Omega.{arith}
use lib.Bits.{bit_or, or_shifted}
use lib.ListN.{length}
use lib.Pow.{shl_exact}
use Rattle.crc.specs.Bits.{bits, number, bits_of}
use Rattle.crc.specs.Crc.{crc, poly7, crc7_of}
use Rattle.crc.proofs.Bits.{bits-join, bits-number, number_lt}
use Rattle.crc.proofs.Register.{length-crc}

length_crc7 : (m : List Bool) → length (crc poly7 m) ≡ 7
unfolding poly7 bits
length_crc7 m = length-crc poly7 (omega arith) m

pub sealed : (s : List ℕ) (x : ℕ) → x ≡ crc7_of s → bits 8 (bit_or (x * 2 ^ 1 % 2 ^ 8) 1) ≡ crc poly7 (bits_of s) ++ (true ∷ [])
unfolding crc7_of bits
sealed s x e =
    let m : List Bool = bits_of s in
    let lt : number (crc poly7 m) < 2 ^ 7 = rw (length_crc7 m) at (number_lt (crc poly7 m)) in
    let xlt : x < 2 ^ 7 = rw e lt in
    ap (λ (y : ℕ). bits 8 (bit_or y 1)) (shl_exact 7 1 8 xlt (omega arith))
    ∙ ap (bits 8) (or_shifted x 1 1 (omega arith))
    ∙ bits-join 7 1 x 1 (omega arith)
    ∙ ap (λ (q : List Bool). q ++ bits 1 1)
    (ap₂ bits (sym (length_crc7 m)) e ∙ bits-number (crc poly7 m))
