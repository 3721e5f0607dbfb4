-- A line of input (01, "Bench readings"), without its newline: a word, and for two of them a tab and hex digits.
use Rattle.std.specs.Prelude.{cond, ◌&&◌, List, [], ◌∷◌, ◌++◌, ℕ, ◌*◌, ◌/◌, ◌%◌, eqb, leb, length, take, drop, Option, Some, None}
use Rattle.card.specs.Soundness.{equal}
use Rattle.replay_read.specs.Hex.{all_hex, unhex}
use Rattle.replay_read.specs.declared.Input.{Input}
use Rattle.replay_read.specs.declared.Input.TheVariants.{Cmd, Blk, Take, Over}

-- what a line asks for
pub data Request : Type 0 where
  -- a frame of 6 bytes
  cmd : List ℕ → Request
  -- a packet of 514 bytes
  blk : List ℕ → Request
  bare_take : Request
  bare_over : Request
  unreadable : Request

-- the words, those with a field together with its tab
abbrev pub CMD : List ℕ
CMD = 99 ∷ 109 ∷ 100 ∷ 9 ∷ []

abbrev pub BLK : List ℕ
BLK = 98 ∷ 108 ∷ 107 ∷ 9 ∷ []

abbrev pub TAKE : List ℕ
TAKE = 116 ∷ 97 ∷ 107 ∷ 101 ∷ []

abbrev pub OVER : List ℕ
OVER = 111 ∷ 118 ∷ 101 ∷ 114 ∷ []

-- a field of so many digits
unfoldable pub field : ℕ → List ℕ → (List ℕ → Request) → Request
field n s make = cond (eqb (length s) n && all_hex s) (make (unhex s)) unreadable

unfoldable pub read_line : List ℕ → Request
read_line s =
    cond (equal (take 4 s) CMD) (field 12 (drop 4 s) cmd)
    (cond (equal (take 4 s) BLK) (field 1028 (drop 4 s) blk)
    (cond (equal s TAKE) bare_take (cond (equal s OVER) bare_over unreadable)))

-- no readable line is longer than this
abbrev pub LONGEST : ℕ
LONGEST = 1032

-- ---- a request as the code holds it

unfoldable pub held : Request → Option Input
held (cmd s) = Some (Cmd s)
held (blk s) = Some (Blk s)
held bare_take = Some Take
held bare_over = Some Over
held unreadable = None

-- a field of so many digits, the same way
abbrev pub field_read : ℕ → List ℕ → Option (List ℕ)
field_read n s = cond (eqb (length s) n && all_hex s) (Some (unhex s)) None

-- a field of up to so many bytes
abbrev pub front_read : ℕ → List ℕ → Option (List ℕ)
front_read most s = cond (leb (length s) (2 * most) && (eqb (length s % 2) 0 && all_hex s)) (Some (unhex s)) None

-- .. in the front of a buffer, by how many they are
abbrev pub in_front : Option ℕ → List ℕ → Option (List ℕ)
in_front (Some n) out = Some (take n out)
in_front None out = None

-- .. which stays as it was where they cannot be read
abbrev pub front_left : List ℕ → List ℕ → List ℕ
front_left s out =
    cond (leb (length s) (2 * length out) && (eqb (length s % 2) 0 && all_hex s)) (unhex s ++ drop (length s / 2) out) out

-- the request that the code holds
unfoldable pub request_of : Option Input → Request
request_of (Some (Cmd s)) = cmd s
request_of (Some (Blk s)) = blk s
request_of (Some Take) = bare_take
request_of (Some Over) = bare_over
request_of None = unreadable
