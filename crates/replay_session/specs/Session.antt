-- A session: bytes of input arrive one by one, and each newline plays the line that it ends and puts its answer into a text.
use Rattle.std.specs.Prelude.{◌≡◌, Bool, true, cond, not, ◌&&◌, List, [], ◌∷◌, ◌++◌, ℕ, ◌+◌, min, eqb, length, take, drop}
use Rattle.std.specs.Borrow.{Bor, MutBor}
use Rattle.std.specs.List.{FoldsTo}
use Rattle.card.specs.declared.Card.{Card}
use Rattle.codec.specs.Answer.{Encoding}
use Rattle.card.specs.Step.{World, world}
use Rattle.replay_read.specs.Keep.{Collected, collected, keep_byte, kept}
use Rattle.replay_write.specs.Write.{size, place}
use Rattle.replay_answer.specs.Played.{Shown, shown}
use Rattle.replay_answer.specs.declared.Replayed.{Replayed}
use Rattle.replay_answer.specs.declared.Session.{Session}
use Rattle.replay_line.specs.Replay.{replayed, play_line}

-- the card and its memory, what is kept of the line that is arriving, and the answers that are not written yet
pub record SessionState : Type 0 where
  pub world : World
  pub line : Collected
  pub text : Collected

abbrev pub NEWLINE : ℕ
NEWLINE = 10

-- where the next answer goes
abbrev pub place_in : Collected → ℕ
place_in text = place (length text.buffer) text.count

-- the text with an answer at that place
abbrev pub gathered : Collected → Encoding → Collected
gathered text e = collected (take (place_in text) text.buffer ++ e.buffer) (place_in text + size e.answer)

-- the line is played, its answer goes to its place, and the next line begins
abbrev pub gather_into : Collected → Collected → Shown → SessionState
gather_into line text shown =
    record { world = shown.world; line = collected line.buffer 0; text = gathered text shown.line }

unfoldable pub line_ended : SessionState → SessionState
line_ended s =
    gather_into s.line s.text (play_line s.world (kept s.line) (drop (place_in s.text) s.text.buffer))

-- a newline ends the line; any other byte is kept
unfoldable pub heard : SessionState → ℕ → SessionState
heard s byte =
    cond (eqb byte NEWLINE) (line_ended s)
    (record { world = s.world; line = keep_byte s.line byte; text = s.text })

unfoldable pub heard_all : SessionState → List ℕ → SessionState
heard_all s [] = s
heard_all s (byte ∷ rest) = heard_all (heard s byte) rest

-- ---- an input of lines

-- a line has no newline in it
unfoldable pub is_line : List ℕ → Bool
is_line [] = true
is_line (byte ∷ rest) = not (eqb byte NEWLINE) && is_line rest

unfoldable pub are_lines : List (List ℕ) → Bool
are_lines [] = true
are_lines (line ∷ lines) = is_line line && are_lines lines

-- each line with its newline, and behind them a line that has none yet
unfoldable pub joined : List (List ℕ) → List ℕ → List ℕ
joined [] last = last
joined (line ∷ lines) last = line ++ (NEWLINE ∷ joined lines last)

-- each line is played once, in order, on the card that the last one left
unfoldable pub play_all : World → List (List ℕ) → World
play_all w [] = w
play_all w (line ∷ lines) = play_all (replayed w line).world lines

-- and their answers, one after the other
unfoldable pub answers : World → List (List ℕ) → List ℕ
answers w [] = []
answers w (line ∷ lines) = (replayed w line).text ++ answers (replayed w line).world lines

-- ---- as a call

-- a session's record, with the three slices that are lent
abbrev pub session : Session → List ℕ → List ℕ → List ℕ → SessionState
session s memory line text =
    record { world = world s.card memory; line = collected line s.count; text = collected text s.wrote }

-- ---- lines that are played by any function

-- what may be shown of a line that is played on a world, into a text
abbrev pub Plays : Type 1
Plays = World → List ℕ → List ℕ → Shown → Type 0

abbrev pub Post : Type 1
Post = Card → MutBor (List ℕ) → Bor (List ℕ) → MutBor (List ℕ) → Replayed → MutBor (List ℕ) → MutBor (List ℕ) → Type 0

-- what is shown by a function, of which `post` says what a call may come to
unfoldable pub PlayedBy : Post → Plays
PlayedBy post w line text x =
    (m : MutBor (List ℕ)) × (l : Bor (List ℕ)) × (t : MutBor (List ℕ)) × (r : Replayed) × (m' : MutBor (List ℕ)) × (t' : MutBor (List ℕ))
    × (m.now ≡ w.memory) × (l.now ≡ line) × (t.now ≡ text) × post w.card m l t r m' t' × (x ≡ shown r m'.now t'.now)

-- the answer goes to its place; whatever is said of its size, the text ends in the buffer
abbrev pub ended_with : SessionState → Shown → SessionState
ended_with s x =
    let text = s.text.buffer in
    record {
      world = x.world;
      line = collected s.line.buffer 0;
      text = collected (take (place_in s.text) text ++ x.line.buffer) (min (place_in s.text + size x.line.answer) (length text));
    }

unfoldable pub LineEnds : Plays → SessionState → SessionState → Type 0
LineEnds plays s t = (x : Shown) × plays s.world (kept s.line) (drop (place_in s.text) s.text.buffer) x × (t ≡ ended_with s x)

unfoldable pub Hears : Plays → SessionState → ℕ → SessionState → Type 0
Hears plays s byte t =
    (byte ≡ NEWLINE → LineEnds plays s t)
    × ((byte ≡ NEWLINE → ⊥) → t ≡ record { world = s.world; line = keep_byte s.line byte; text = s.text })

unfoldable pub HearsAll : Plays → SessionState → List ℕ → SessionState → Type 0
HearsAll plays s chunk t = FoldsTo (Hears plays) s chunk t
