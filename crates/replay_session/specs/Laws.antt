-- What a session comes to, however its input is cut into chunks.
use Rattle.std.specs.Prelude.{◌≡◌, true, List, ◌++◌, ℕ, ◌+◌, ◌≤◌, length}
use Rattle.card.specs.Step.{World}
use Rattle.replay_read.specs.Read.{LONGEST, read_line}
use Rattle.replay_read.specs.Keep.{collected, kept}
use Rattle.replay_write.specs.Write.{ROOM}
use Rattle.replay_session.specs.Session.{SessionState, heard_all, is_line, are_lines, joined, play_all, answers}

-- a session that hears a whole input, in a buffer of one byte more than the longest line
abbrev pub after : World → List ℕ → List ℕ → List (List ℕ) → List ℕ → SessionState
after w buffer text lines last =
    heard_all (record { world = w; line = collected buffer 0; text = collected text 0 }) (joined lines last)

-- for lines with a newline each, and one behind them that has none yet
pub record SessionLaws (w : World) (buffer space : List ℕ) (all : List (List ℕ)) (rest : List ℕ) : Type 0 where
  -- the lines are played one after the other
  pub lines : (after w buffer space all rest).world ≡ play_all w all
  -- what is kept is read as the line that has no newline yet
  pub last : read_line (kept (after w buffer space all rest).line) ≡ read_line rest
  -- where the answers fit, with room for one more, the text is these answers, in order
  pub text : length (answers w all) + ROOM ≤ length space → kept (after w buffer space all rest).text ≡ answers w all

-- two chunks one after the other are one chunk
abbrev pub Chunks : Type 0
Chunks = (s : SessionState) (a b : List ℕ) → heard_all s (a ++ b) ≡ heard_all (heard_all s a) b

-- whatever was in the buffers before
abbrev pub Sessions : Type 0
Sessions =
    (w : World) (buffer text : List ℕ) (lines : List (List ℕ)) (last : List ℕ) → length buffer ≡ LONGEST + 1 → ROOM ≤ length text
    → are_lines lines ≡ true → is_line last ≡ true → SessionLaws w buffer text lines last
