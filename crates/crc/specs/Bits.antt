-- Bits in the order sent: the highest bit of a number first, the bytes one after the other.
use Rattle.std.specs.Prelude.{Bool, true, false, List, [], ◌∷◌, ◌++◌, ℕ, zero, suc, ◌+◌, ◌*◌, ◌/◌, ◌%◌, ◌^◌, ◌<◌, eqb, length, get_or, take, drop}

-- a bit as a number
abbrev pub digit : Bool → ℕ
digit false = 0
digit true = 1

-- bit i of n, where bit 0 is the lowest
abbrev pub bit : ℕ → ℕ → Bool
bit n i = eqb (n / 2 ^ i % 2) 1

-- the w low bits of n
unfoldable pub bits : ℕ → ℕ → List Bool
bits zero n = []
bits (suc w) n = bit n w ∷ bits w n

-- the number that bits spell
unfoldable pub number : List Bool → ℕ
number [] = 0
number (b ∷ bs) = digit b * 2 ^ length bs + number bs

-- every element is a byte
abbrev pub Bytes : List ℕ → Type 0
Bytes s = (i : ℕ) → get_or s i 0 < 256

-- the bits of a run of bytes
unfoldable pub bits_of : List ℕ → List Bool
bits_of [] = []
bits_of (b ∷ bs) = bits 8 b ++ bits_of bs

-- the first n bytes that bits spell
unfoldable pub bytes : ℕ → List Bool → List ℕ
bytes zero bs = []
bytes (suc n) bs = number (take 8 bs) ∷ bytes n (drop 8 bs)
