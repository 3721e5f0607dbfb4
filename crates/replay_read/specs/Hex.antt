-- Capital hex, two digits a byte, the high one first.
use Rattle.std.specs.Prelude.{Bool, true, cond, ◌&&◌, List, [], ◌∷◌, ℕ, ◌+◌, ◌-◌, ◌*◌, ◌/◌, ◌%◌, eqb, leb, ltb, length}

-- the character of 0 to 15
abbrev pub hex_digit : ℕ → ℕ
hex_digit n = cond (ltb n 10) (48 + n) (55 + n)

unfoldable pub hex : List ℕ → List ℕ
hex [] = []
hex (b ∷ s) = hex_digit (b / 16) ∷ hex_digit (b % 16) ∷ hex s

-- the value of a character; 16 where it is no capital hex digit
abbrev pub hex_value : ℕ → ℕ
hex_value c = cond (leb 48 c && leb c 57) (c - 48) (cond (leb 65 c && leb c 70) (c - 55) 16)

unfoldable pub all_hex : List ℕ → Bool
all_hex [] = true
all_hex (c ∷ s) = ltb (hex_value c) 16 && all_hex s

-- the bytes of pairs of digits
unfoldable pub unhex : List ℕ → List ℕ
unhex [] = []
unhex (h ∷ []) = []
unhex (h ∷ l ∷ s) = (hex_value h * 16 + hex_value l) ∷ unhex s

-- digits that are just so many bytes
abbrev pub fills : List ℕ → List ℕ → Bool
fills digits bytes = eqb (length digits) (2 * length bytes) && all_hex digits
