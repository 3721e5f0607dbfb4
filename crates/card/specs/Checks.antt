-- Start checks (01), in the order given: the first that fails sets its bit. A check is named for what is wrong.
use Rattle.std.specs.Prelude.{Bool, cond, not, List, [], ◌∷◌, ℕ, ◌+◌, ◌%◌, eqb, leb, ltb}
use Rattle.std.proofs.Math.Option.{Option, none, some}
use Rattle.card.specs.Settings.{BLOCK}
use Rattle.card.specs.Status.{OUT_OF_RANGE, ADDRESS_ERROR, BLOCK_LEN_ERROR, WP_VIOLATION}

-- whether it fails, and the number of the bit that it sets
pub record Check : Type 0 where
  pub fails : Bool
  pub bit : ℕ

infix 70 ◌sets◌
abbrev pub ◌sets◌ : Bool → ℕ → Check
b sets n = record { fails = b; bit = n }

-- the bit of the first that fails
unfoldable pub first_failure : List Check → Option ℕ
first_failure [] = none
first_failure (c ∷ cs) = cond c.fails (some c.bit) (first_failure cs)

-- at or above capacity
abbrev pub outside : ℕ → ℕ → Bool
outside top address = leb top address

-- the bytes of a read cross a 512 boundary
abbrev pub crossing : ℕ → ℕ → Bool
crossing length address = ltb BLOCK (address % BLOCK + length)

-- not on a 512 boundary
abbrev pub off_block : ℕ → Bool
off_block address = not (eqb (address % BLOCK) 0)

-- ---- of a command: by the capacity, the block length, what is protected, and its address

abbrev pub address_checks : ℕ → ℕ → List Check
address_checks top a = outside top a sets OUT_OF_RANGE ∷ []

abbrev pub read_checks : ℕ → ℕ → ℕ → List Check
read_checks top length a = outside top a sets OUT_OF_RANGE ∷ crossing length a sets ADDRESS_ERROR ∷ []

abbrev pub write_checks : ℕ → ℕ → Bool → ℕ → List Check
write_checks top length wp a =
    not (eqb length BLOCK) sets BLOCK_LEN_ERROR
    ∷ outside top a sets OUT_OF_RANGE
    ∷ off_block a sets ADDRESS_ERROR
    ∷ wp sets WP_VIOLATION ∷ []
