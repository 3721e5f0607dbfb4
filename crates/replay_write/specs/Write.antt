-- A line of output (01, "Bench readings"), with its newline.
use Rattle.std.specs.Prelude.{cond, List, [], ◌∷◌, ◌++◌, ℕ, ◌+◌, ◌/◌, ◌%◌, eqb, leb, ltb, length, take}
use Rattle.codec.specs.Answer.{Outcome, done, refused, BUFFER, Encoding, refuse, emit}
use Rattle.card.specs.Data.{ACCEPTED}
use Rattle.card.specs.Step.{Reply, silent, sent, answered, over}
use Rattle.replay_read.specs.Hex.{hex}
use Rattle.replay_write.specs.declared.Kind.{Kind}
use Rattle.replay_write.specs.declared.Kind.TheVariants.{Command, Response, Block, Memory}

-- what is sent is a command, a response, a data block, or a block of the program's memory
abbrev pub word : Kind → List ℕ
word Command = 99 ∷ 109 ∷ 100 ∷ 9 ∷ []
word Response = 114 ∷ 115 ∷ 112 ∷ 9 ∷ []
word Block = 98 ∷ 108 ∷ 107 ∷ 9 ∷ []
word Memory = 109 ∷ 101 ∷ 109 ∷ 9 ∷ []

abbrev pub NONE : List ℕ
NONE = 110 ∷ 111 ∷ 110 ∷ 101 ∷ 10 ∷ []

abbrev pub ACK : List ℕ
ACK = 97 ∷ 99 ∷ 107 ∷ 10 ∷ []

abbrev pub NAK : List ℕ
NAK = 110 ∷ 97 ∷ 107 ∷ 10 ∷ []

-- a number below 1,000, without leading zeros
abbrev pub decimal : ℕ → List ℕ
decimal n =
    cond (ltb n 10) ((48 + n) ∷ [])
    (cond (ltb n 100) ((48 + n / 10) ∷ (48 + n % 10) ∷ []) ((48 + n / 100) ∷ (48 + n / 10 % 10) ∷ (48 + n % 10) ∷ []))

abbrev pub refusal : ℕ → List ℕ
refusal k = 114 ∷ 101 ∷ 102 ∷ 9 ∷ (decimal k ++ (10 ∷ []))

-- the line of an answer; `out` is the output buffer that the call was lent, as it left it
unfoldable pub written : Kind → Outcome Reply → List ℕ → List ℕ
written kind (refused k) out = refusal k
written kind (done silent) out = NONE
written kind (done over) out = NONE
written kind (done (answered n)) out = cond (eqb n ACCEPTED) ACK NAK
written kind (done (sent n)) out = word kind ++ (hex (take n out) ++ (10 ∷ []))

-- a line is written whole, in front of what is in the buffer, or not at all (row 4)
unfoldable pub fitted : List ℕ → List ℕ → Encoding
fitted line text = cond (ltb (length text) (length line)) (refuse BUFFER text) (emit line text)

abbrev pub write_line : Kind → Outcome Reply → List ℕ → List ℕ → Encoding
write_line kind a out text = fitted (written kind a out) text

-- ---- lines that are gathered in one text

-- the longest line of output: a word, a tab, 1,030 digits, a newline; a block of SPI mode has so many
abbrev pub ROOM : ℕ
ROOM = 1035

-- how many bytes were written; a refusal wrote none
abbrev pub size : Outcome ℕ → ℕ
size (done n) = n
size (refused k) = 0

-- where the next line goes, in a text of so many bytes whose first `count` are lines: behind them, or to the front where the
-- longest line would not fit there
abbrev pub place : ℕ → ℕ → ℕ
place bytes count = cond (leb (count + ROOM) bytes) count 0
