-- Laws of xor, of two bits and of two lists of bits place by place.
-- Assumes nothing.
use mathlib.Core.Path.{◌≡◌, refl, ap, ap₂, ◌∙◌}
use mathlib.Core.Bool.{Bool, true, false, not, xor}
use mathlib.Core.List.{List, [], ◌∷◌, ◌++◌}
use Prim.Native.Nat.{ℕ, zero, suc, ◌≤◌}
use native.Mathlib.Omega.{arith}
use lib.ListN.{length, replicate}
use Rattle.crc.specs.Crc.{◌⊕◌}

pub bit_comm : (a b : Bool) → xor a b ≡ xor b a
unfolding xor
bit_comm false false = refl
bit_comm false true = refl
bit_comm true false = refl
bit_comm true true = refl

pub bit_assoc : (a b c : Bool) → xor (xor a b) c ≡ xor a (xor b c)
unfolding xor
bit_assoc false false false = refl
bit_assoc false false true = refl
bit_assoc false true false = refl
bit_assoc false true true = refl
bit_assoc true false false = refl
bit_assoc true false true = refl
bit_assoc true true false = refl
bit_assoc true true true = refl

pub bit_self : (b : Bool) → xor b b ≡ false
unfolding xor
bit_self false = refl
bit_self true = refl

pub bit-false : (b : Bool) → xor b false ≡ b
unfolding xor
bit-false false = refl
bit-false true = refl

pub false-bit : (b : Bool) → xor false b ≡ b
false-bit b = bit_comm false b ∙ bit-false b

pub true-bit : (b : Bool) → xor true b ≡ not b
unfolding xor
true-bit false = refl
true-bit true = refl

pub nil_xor : (xs : List Bool) → [] ⊕ xs ≡ xs
unfolding ◌⊕◌
nil_xor xs = refl

pub xor_comm : (xs ys : List Bool) → xs ⊕ ys ≡ ys ⊕ xs
unfolding ◌⊕◌
xor_comm [] [] = refl
xor_comm [] (y ∷ ys) = refl
xor_comm (x ∷ xs) [] = refl
xor_comm (x ∷ xs) (y ∷ ys) = ap₂ ◌∷◌ (bit_comm x y) (xor_comm xs ys)

pub xor_nil : (xs : List Bool) → xs ⊕ [] ≡ xs
xor_nil xs = xor_comm xs [] ∙ nil_xor xs

pub xor_assoc : (xs ys zs : List Bool) → xs ⊕ ys ⊕ zs ≡ xs ⊕ (ys ⊕ zs)
unfolding ◌⊕◌
xor_assoc [] ys zs = refl
xor_assoc (x ∷ xs) [] zs = refl
xor_assoc (x ∷ xs) (y ∷ ys) [] = refl
xor_assoc (x ∷ xs) (y ∷ ys) (z ∷ zs) = ap₂ ◌∷◌ (bit_assoc x y z) (xor_assoc xs ys zs)

pub xor-right_comm : (a b c : List Bool) → a ⊕ b ⊕ c ≡ a ⊕ c ⊕ b
xor-right_comm a b c = cc (xor_assoc a b c, xor_assoc a c b, xor_comm b c)

-- the second and the third of four change places
pub xor_swap : (a b c d : List Bool) → a ⊕ b ⊕ (c ⊕ d) ≡ a ⊕ c ⊕ (b ⊕ d)
xor_swap a b c d = cc (xor_assoc (a ⊕ b) c d, xor-right_comm a b c, xor_assoc (a ⊕ c) b d)

pub xor_self : (xs : List Bool) → xs ⊕ xs ≡ replicate (length xs) false
unfolding ◌⊕◌
xor_self [] = refl
xor_self (x ∷ xs) = ap₂ ◌∷◌ (bit_self x) (xor_self xs)

pub xor-zeros : (xs : List Bool) (k : ℕ) → k ≤ length xs → xs ⊕ replicate k false ≡ xs
unfolding ◌⊕◌
xor-zeros xs zero h = xor_nil xs
xor-zeros [] (suc k) h = absurd (omega arith)
xor-zeros (x ∷ xs) (suc k) h = ap₂ ◌∷◌ (bit-false x) (xor-zeros xs k (omega arith))

-- twice the same is nothing
pub xor-twice : (xs ys : List Bool) → length ys ≤ length xs → xs ⊕ ys ⊕ ys ≡ xs
xor-twice xs ys h = cc (xor_assoc xs ys ys, xor_self ys, xor-zeros xs (length ys) h)

pub xor_cancel : (xs ys : List Bool) → length xs ≡ length ys → xs ⊕ ys ≡ replicate (length xs) false → xs ≡ ys
xor_cancel xs ys h e = cc (xor-twice xs ys (omega arith), xor_comm (replicate (length xs) false) ys, xor-zeros ys (length xs) (omega arith))

-- xor with a list that is no longer leaves the length
pub length-xor : (xs ys : List Bool) → length ys ≤ length xs → length (xs ⊕ ys) ≡ length xs
unfolding ◌⊕◌
length-xor [] [] h = refl
length-xor [] (y ∷ ys) h = absurd (omega arith)
length-xor (x ∷ xs) [] h = refl
length-xor (x ∷ xs) (y ∷ ys) h = ap suc (length-xor xs ys (omega arith))

pub append_xor_append : (a b c d : List Bool) → length a ≡ length b → (a ++ c) ⊕ (b ++ d) ≡ (a ⊕ b) ++ (c ⊕ d)
unfolding ◌⊕◌
append_xor_append [] [] c d h = refl
append_xor_append [] (y ∷ b) c d h = absurd (omega arith)
append_xor_append (x ∷ a) [] c d h = absurd (omega arith)
append_xor_append (x ∷ a) (y ∷ b) c d h = ap (λ (l : List Bool). xor x y ∷ l) (append_xor_append a b c d (omega arith))

pub append_xor : (a b c : List Bool) → length b ≤ length a → (a ++ c) ⊕ b ≡ (a ⊕ b) ++ c
unfolding ◌⊕◌
append_xor [] [] c h = xor_nil c
append_xor [] (y ∷ b) c h = absurd (omega arith)
append_xor (x ∷ a) [] c h = refl
append_xor (x ∷ a) (y ∷ b) c h = ap (λ (l : List Bool). xor x y ∷ l) (append_xor a b c (omega arith))
