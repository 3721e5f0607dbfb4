-- What holds of every line of the card.
use Rattle.std.specs.Prelude.{◌≡◌, List, [], ◌++◌, ℕ, ◌+◌, ◌*◌, ◌≤◌, length, take}
use Rattle.crc.specs.Bits.{Bytes}
use Rattle.replay_read.specs.Hex.{hex}
use Rattle.replay_read.specs.Keep.{collected, keep_all, kept}
use Rattle.replay_write.specs.declared.Kind.TheVariants.{Response}
use Rattle.replay_write.specs.Write.{word}
use Rattle.bring_up_line.specs.Answer.{bytes, NONE, read_answer}

-- one byte more than the longest line with an answer has
abbrev pub ROOM : ℕ → ℕ
ROOM most = 2 * most + 5

pub record AnswerLaws : Type 0 where
  -- what the card's program writes is read back
  pub response : (most : ℕ) (s : List ℕ) → Bytes s → 1 ≤ length s → length s ≤ most → read_answer most (word Response ++ hex s) ≡ bytes s
  pub silence : (most : ℕ) → read_answer most NONE ≡ bytes []
  -- of a line that is too long, one byte more than the longest is enough to tell
  pub front : (most : ℕ) (s : List ℕ) → read_answer most s ≡ read_answer most (take (ROOM most) s)
  -- so a line is read as it was, from a buffer of that size
  pub read : (most : ℕ) (buffer s : List ℕ) → length buffer ≡ ROOM most
      → read_answer most (kept (keep_all (collected buffer 0) s)) ≡ read_answer most s
