-- Layouts: the slots of a word of bits, the high bit first, as 01 lists them.
use Rattle.std.specs.Prelude.{Bool, true, false, ◌&&◌, List, [], ◌∷◌, ◌++◌, ℕ, ◌+◌, ◌^◌, eqb, ltb, take, drop}
use Rattle.crc.specs.Bits.{bits, number}

pub data Slot : Type 0 where
  -- a value of so many bits
  field : ℕ → Slot
  -- bits that are sent as zeros and ignored
  reserved : ℕ → Slot
  -- bits that hold one value, which is judged
  fixed : ℕ → ℕ → Slot

abbrev pub width_of : Slot → ℕ
width_of (field w) = w
width_of (reserved w) = w
width_of (fixed w v) = w

unfoldable pub width : List Slot → ℕ
width [] = 0
width (x ∷ slots) = width_of x + width slots

-- the bits of the fields' values, in the slots' order
unfoldable pub write : List Slot → List ℕ → List Bool
write [] vs = []
write (field w ∷ slots) [] = bits w 0 ++ write slots []
write (field w ∷ slots) (v ∷ vs) = bits w v ++ write slots vs
write (reserved w ∷ slots) vs = bits w 0 ++ write slots vs
write (fixed w v ∷ slots) vs = bits w v ++ write slots vs

-- the fields' values
unfoldable pub read : List Slot → List Bool → List ℕ
read [] bs = []
read (field w ∷ slots) bs = number (take w bs) ∷ read slots (drop w bs)
read (reserved w ∷ slots) bs = read slots (drop w bs)
read (fixed w v ∷ slots) bs = read slots (drop w bs)

-- one value for each field, and each fits its width
unfoldable pub fits : List Slot → List ℕ → Bool
fits [] [] = true
fits [] (v ∷ vs) = false
fits (field w ∷ slots) [] = false
fits (field w ∷ slots) (v ∷ vs) = ltb v (2 ^ w) && fits slots vs
fits (reserved w ∷ slots) vs = fits slots vs
fits (fixed w v ∷ slots) vs = ltb v (2 ^ w) && fits slots vs

-- every fixed slot holds its value
unfoldable pub judged : List Slot → List Bool → Bool
judged [] bs = true
judged (field w ∷ slots) bs = judged slots (drop w bs)
judged (reserved w ∷ slots) bs = judged slots (drop w bs)
judged (fixed w v ∷ slots) bs = eqb (number (take w bs)) v && judged slots (drop w bs)

-- every reserved bit is zero
unfoldable pub blank : List Slot → List Bool → Bool
blank [] bs = true
blank (field w ∷ slots) bs = blank slots (drop w bs)
blank (reserved w ∷ slots) bs = eqb (number (take w bs)) 0 && blank slots (drop w bs)
blank (fixed w v ∷ slots) bs = blank slots (drop w bs)

-- the bits outside the reserved slots
unfoldable pub kept : List Slot → List Bool → List Bool
kept [] bs = []
kept (field w ∷ slots) bs = take w bs ++ kept slots (drop w bs)
kept (reserved w ∷ slots) bs = kept slots (drop w bs)
kept (fixed w v ∷ slots) bs = take w bs ++ kept slots (drop w bs)
