-- Protection groups (01): 32 blocks each, a mark for each; and the protected card. Marks are a list of bytes, wherever they are kept.
use Rattle.std.specs.Prelude.{Bool, false, ◌&&◌, ◌||◌, List, [], ◌∷◌, ℕ, zero, suc, ◌+◌, ◌-◌, ◌*◌, ◌/◌, ◌%◌, ◌^◌, ltb, get_or, set}
use Rattle.crc.specs.Bits.{bit, digit}
use Rattle.card.specs.declared.Settings.{Settings}
use Rattle.card.specs.Settings.{BLOCK, GROUP}

-- the group of a byte address
abbrev pub group_of : ℕ → ℕ
group_of address = address / (GROUP * BLOCK)

abbrev pub marked : List ℕ → ℕ → Bool
marked marks group = bit (get_or marks (group / 8) 0) (group % 8)

-- the byte with one bit made 1 or 0
abbrev pub put_bit : Bool → ℕ → ℕ → ℕ
put_bit value k byte = byte - digit (bit byte k) * 2 ^ k + digit value * 2 ^ k

-- the marks with that of a group set or cleared
unfoldable pub mark : Bool → List ℕ → ℕ → List ℕ
mark value marks group = set marks (group / 8) (put_bit value (group % 8) (get_or marks (group / 8) 0))

-- the permanent or temporary bit protects every block
abbrev pub whole : Settings → Bool
whole s = s.permanent || s.temporary

-- the block at an address is protected, with the whole card or by its group
unfoldable pub guarded : Bool → List ℕ → ℕ → Bool
guarded all marks address = all || marked marks (group_of address)

-- some of k blocks from number b on is protected
unfoldable pub any_guarded : Bool → List ℕ → ℕ → ℕ → Bool
any_guarded all marks b zero = false
any_guarded all marks b (suc k) = guarded all marks (b * BLOCK) || any_guarded all marks (b + 1) k

-- 30: the marks of k groups from a given one on, that one last; groups past the end, of n, read 0
unfoldable pub mark_bits : ℕ → List ℕ → ℕ → ℕ → List Bool
mark_bits n marks group zero = []
mark_bits n marks group (suc k) = (ltb (group + k) n && marked marks (group + k)) ∷ mark_bits n marks group k
