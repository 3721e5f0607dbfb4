-- The cyclic redundancy check, once over every width and polynomial: start value zero, high bit first.
-- A polynomial x^w + .. is given by its w lower coefficients, that of x^(w-1) first; the register has w bits.
use Rattle.std.specs.Prelude.{Bool, true, false, List, [], ◌∷◌, ◌++◌, ℕ, zero, suc, ◌+◌, ◌^◌, length, replicate}
use Rattle.std.specs.Bool.{xor}
use Rattle.crc.specs.Bits.{bits, bits_of, number}

infixl 65 ◌⊕◌
-- xor place by place; the shorter list counts as followed by zeros
unfoldable pub ◌⊕◌ : List Bool → List Bool → List Bool
[] ⊕ ys = ys
(x ∷ xs) ⊕ [] = x ∷ xs
(x ∷ xs) ⊕ (y ∷ ys) = xor x y ∷ (xs ⊕ ys)

-- the register moved up by one place; where a one leaves it at the top, the polynomial is taken off
unfoldable pub shift : List Bool → List Bool → List Bool
shift p [] = []
shift p (false ∷ r) = r ++ (false ∷ [])
shift p (true ∷ r) = (r ++ (false ∷ [])) ⊕ p

-- k turns of the register, with zeros entering
unfoldable pub turns : List Bool → ℕ → List Bool → List Bool
turns p zero r = r
turns p (suc k) r = turns p k (shift p r)

-- the bits enter at the top, one after the other
unfoldable pub run : List Bool → List Bool → List Bool → List Bool
run p r [] = r
run p r (b ∷ bs) = run p (shift p (r ⊕ (b ∷ []))) bs

-- a register of zeros
abbrev pub clear : List Bool → List Bool
clear p = replicate (length p) false

-- the check of a message
unfoldable pub crc : List Bool → List Bool → List Bool
crc p message = run p (clear p) message

-- x^7 + x^3 + 1
unfoldable pub poly7 : List Bool
poly7 = bits 7 (2 ^ 3 + 2 ^ 0)

-- x^16 + x^12 + x^5 + 1
unfoldable pub poly16 : List Bool
poly16 = bits 16 (2 ^ 12 + 2 ^ 5 + 2 ^ 0)

-- the two checks of bytes, as numbers
unfoldable pub crc7_of : List ℕ → ℕ
crc7_of s = number (crc poly7 (bits_of s))

unfoldable pub crc16_of : List ℕ → ℕ
crc16_of s = number (crc poly16 (bits_of s))
