-- The card status of R1 and its short form of R6, by the standard's bit numbers.
use Rattle.std.specs.Prelude.{Bool, ◌∷◌, ℕ, ◌/◌, ◌%◌, ◌^◌}
use Rattle.crc.specs.Bits.{bit, bits, number}

-- bits 12..9: idle 0, ready 1, ident 2, stby 3, tran 4, data 5, rcv 6, prg 7, dis 8
abbrev pub current_state : ℕ → ℕ
current_state status = status / 2 ^ 9 % 2 ^ 4

-- bit 8
abbrev pub ready_for_data : ℕ → Bool
ready_for_data status = bit status 8

-- R6 carries status bits 23, 22, 19, 12..0
unfoldable pub short_status : ℕ → ℕ
short_status status = number (bit status 23 ∷ bit status 22 ∷ bit status 19 ∷ bits 13 status)
