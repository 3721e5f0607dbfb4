-- A line of the card, without its newline, as the answer to a command: `none`, or `rsp`, a tab and hex digits.
use Rattle.std.specs.Prelude.{Bool, cond, ◌&&◌, List, [], ◌∷◌, ℕ, ◌*◌, ◌%◌, eqb, leb, length, take, drop, Option, Some, None}
use Rattle.card.specs.Soundness.{equal}
use Rattle.replay_read.specs.Hex.{all_hex, unhex}

pub data Said : Type 0 where
  -- a response; no bytes are silence
  bytes : List ℕ → Said
  -- any other line
  other : Said

abbrev pub NONE : List ℕ
NONE = 110 ∷ 111 ∷ 110 ∷ 101 ∷ []

abbrev pub RSP : List ℕ
RSP = 114 ∷ 115 ∷ 112 ∷ 9 ∷ []

-- the digits of one byte or more, up to so many
abbrev pub is_field : ℕ → List ℕ → Bool
is_field most s = leb 1 (length s) && (leb (length s) (2 * most) && (eqb (length s % 2) 0 && all_hex s))

unfoldable pub field : ℕ → List ℕ → Said
field most s = cond (is_field most s) (bytes (unhex s)) other

unfoldable pub read_answer : ℕ → List ℕ → Said
read_answer most s = cond (equal s NONE) (bytes []) (cond (equal (take 4 s) RSP) (field most (drop 4 s)) other)

-- ---- an answer as the code holds it: its bytes

abbrev pub said : Option (List ℕ) → Said
said (Some s) = bytes s
said None = other
