-- What is claimed of the two checks, and proved in proofs/: the detection law, and that both polynomials have it; a byte at a
-- time by a table.
use Rattle.std.specs.Prelude.{◌≡◌, Bool, List, ℕ, suc, ◌+◌, ◌-◌, ◌*◌, ◌/◌, ◌%◌, ◌^◌, ◌<◌, T, length, get_or}
use Rattle.std.specs.Int.Bits.{bit_xor}
use Rattle.crc.specs.Bits.{bits}
use Rattle.crc.specs.Crc.{turns, poly7, poly16}
use Rattle.crc.specs.Detection.{suits, Detects}
use Rattle.crc.specs.Table.{in_place, Tabulates}

-- a polynomial that suits has the law
abbrev pub SuitsDetects : Type 0
SuitsDetects = (p : List Bool) (n few : ℕ) → T (suits p n few) → Detects p (suc n) few

-- up to two bits, in a frame of six bytes without its end bit
abbrev pub Poly7Detects : Type 0
Poly7Detects = Detects poly7 (8 * 6 - 1) 2

-- up to three bits, in a payload of 512 bytes with its check
abbrev pub Poly16Detects : Type 0
Poly16Detects = Detects poly16 (8 * (512 + 2)) 3

-- 256 numbers that pass the test have the rule
abbrev pub InPlaceTabulates : Type 0
InPlaceTabulates = (p : List Bool) (t : List ℕ) → length t ≡ 256 → T (in_place p 0 t) → Tabulates p t

-- eight turns at once, at every width from eight on: what is below the top byte moves up, and the entry of that byte is added
abbrev pub TurnsByTable : Type 0
TurnsByTable = (v : ℕ) (p : List Bool) (t : List ℕ) → length p ≡ 8 + v → Tabulates p t → (r : ℕ) → r < 2 ^ (8 + v)
    → bits (8 + v) (bit_xor (r * 2 ^ 8 % 2 ^ (8 + v)) (get_or t (r / 2 ^ v) 0)) ≡ turns p 8 (bits (8 + v) r)
