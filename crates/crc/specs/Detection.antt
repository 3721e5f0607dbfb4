-- The error-detection law, once over the polynomial: what it says, and what the polynomial must have for it.
use Rattle.std.specs.Prelude.{◌≡◌, Bool, true, false, not, ◌&&◌, ◌||◌, List, [], ◌∷◌, ◌++◌, ℕ, zero, suc, ◌≤◌, leb, length}
use Rattle.std.specs.Bool.{xor, beq}
use Rattle.crc.specs.Crc.{◌⊕◌, shift, crc, clear}
use Rattle.crc.specs.Altered.{Altered}

-- a word with a right check: a message with its check behind it
pub record Right (p word : List Bool) : Type 0 where
  pub message : List Bool
  pub checked : word ≡ message ++ crc p message

-- two lists of bits are the same, as a test
unfoldable pub same : List Bool → List Bool → Bool
same [] [] = true
same [] (y ∷ ys) = false
same (x ∷ xs) [] = false
same (x ∷ xs) (y ∷ ys) = beq x y && same xs ys

-- the last coefficient, that of x^0, is one
unfoldable pub unit : List Bool → Bool
unit [] = false
unit (b ∷ []) = b
unit (a ∷ b ∷ bs) = unit (b ∷ bs)

-- x+1 divides x^w + p: p has an odd number of ones
unfoldable pub odd : List Bool → Bool
odd [] = false
odd (b ∷ bs) = xor b (odd bs)

-- the register that x^(w-1) stands for: a one at the top
unfoldable pub top : List Bool → List Bool
top p = clear p ⊕ (true ∷ [])

-- in k turns the register r does not come to the top
unfoldable pub apart : List Bool → ℕ → List Bool → Bool
apart p zero r = true
apart p (suc k) r = not (same r (top p)) && apart p k (shift p r)

-- computed facts of a polynomial: its last coefficient is one, no two places up to n apart cancel, and for three
-- altered bits x+1 divides it
unfoldable pub suits : List Bool → ℕ → ℕ → Bool
suits p n few = unit p && (apart p n (shift p (top p)) && (leb few 2 || (leb few 3 && odd p)))

-- the law, for words of up to n bits: a right word altered in up to `few` bits, or within the width of the polynomial, has no right check
abbrev pub Detects : List Bool → ℕ → ℕ → Type 0
Detects p n few = (f g : List Bool) → length f ≤ n → Right p f → Altered few (length p) f g → Right p g → ⊥
