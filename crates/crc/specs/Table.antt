-- The check a byte at a time: what a table holds, once over every polynomial of eight places or more.
use Rattle.std.specs.Prelude.{◌≡◌, Bool, true, false, ◌&&◌, List, [], ◌∷◌, ◌++◌, ℕ, suc, ◌-◌, ◌<◌, eqb, length, get_or, replicate}
use Rattle.crc.specs.Bits.{bits, number}
use Rattle.crc.specs.Crc.{turns}

-- entry b of the table: eight turns of a register that has b at its top and zeros below
unfoldable pub entry : List Bool → ℕ → ℕ
entry p b = number (turns p 8 (bits 8 b ++ replicate (length p - 8) false))

-- the test of a table: each number is the entry of its place, counted from b
unfoldable pub in_place : List Bool → ℕ → List ℕ → Bool
in_place p b [] = true
in_place p b (x ∷ t) = eqb x (entry p b) && in_place p (suc b) t

-- the rule of a table: the entry of each byte
unfoldable pub Tabulates : List Bool → List ℕ → Type 0
Tabulates p t = (b : ℕ) → b < 256 → get_or t b 0 ≡ entry p b
