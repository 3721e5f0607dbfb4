-- Laws of an odd number of ones: where x+1 divides the polynomial, the register keeps count of it.
-- Assumes nothing.
use mathlib.Core.Path.{◌≡◌, refl, sym, ap, ◌∙◌}
use mathlib.Core.Bool.{Bool, true, false, not, xor}
use mathlib.Core.List.{List, [], ◌∷◌}
use Prim.Native.Nat.{ℕ, zero, suc}
use lib.Dec.{T}
use lib.Ieee.Bits.{is_true}
use lib.ListN.{length, replicate}
use Rattle.crc.specs.Crc.{◌⊕◌, shift, run, crc}
use Rattle.crc.specs.Altered.{count}
use Rattle.crc.specs.Detection.{odd}
use Rattle.crc.proofs.Xor.{bit_assoc, bit_comm, bit-false, false-bit, true-bit}
use Rattle.crc.proofs.Register.{up}

pub odd-zeros : (n : ℕ) → odd (replicate n false) ≡ false
unfolding odd
odd-zeros zero = refl
odd-zeros (suc n) = false-bit (odd (replicate n false)) ∙ odd-zeros n

odd-xor : (xs ys : List Bool) → odd (xs ⊕ ys) ≡ xor (odd xs) (odd ys)
unfolding odd ◌⊕◌
odd-xor [] ys = sym (false-bit (odd ys))
odd-xor (x ∷ xs) [] = sym (bit-false (xor x (odd xs)))
odd-xor (x ∷ xs) (y ∷ ys) =
    let a : Bool = odd xs in
    let b : Bool = odd ys in
    ap (xor (xor x y)) (odd-xor xs ys) ∙ cc (bit_assoc x y (xor a b), bit_assoc y a b, bit_comm y a, bit_assoc a y b, bit_assoc x a (xor y b))

odd-up : (r : List Bool) → odd (up r) ≡ odd r
unfolding odd
odd-up [] = bit-false false
odd-up (b ∷ r) = ap (xor b) (odd-up r)

-- an odd number
unfoldable pub oddℕ : ℕ → Bool
oddℕ zero = false
oddℕ (suc n) = not (oddℕ n)

pub odd-count : (bs : List Bool) → odd bs ≡ oddℕ (count bs)
unfolding odd count oddℕ
odd-count [] = refl
odd-count (false ∷ bs) = false-bit (odd bs) ∙ odd-count bs
odd-count (true ∷ bs) = true-bit (odd bs) ∙ ap not (odd-count bs)

module _ (p : List Bool) (divides : T (odd p)) where
  odd_shift : (r : List Bool) → odd (shift p r) ≡ odd r
  unfolding odd shift
  odd_shift [] = refl
  odd_shift (false ∷ r) = odd-up r ∙ sym (false-bit (odd r))
  odd_shift (true ∷ r) = cc (odd-xor (up r) p, odd-up r, is_true (odd p) divides, bit_comm true (odd r))

  odd-run : (r bs : List Bool) → odd (run p r bs) ≡ xor (odd r) (odd bs)
  unfolding odd run
  odd-run r [] = sym (bit-false (odd r))
  odd-run r (b ∷ bs) =
      odd-run (shift p (r ⊕ (b ∷ []))) bs
      ∙ cc (odd_shift (r ⊕ (b ∷ [])), odd-xor r (b ∷ []), bit-false b, bit_assoc (odd r) b (odd bs))

  pub odd-crc : (bs : List Bool) → odd (crc p bs) ≡ odd bs
  unfolding crc
  odd-crc bs = odd-run (replicate (length p) false) bs ∙ cc (odd-zeros (length p), false-bit (odd bs))
