-- The laws of specs/Laws.antt: a newline behind a line plays it, and the rest is heard from an empty buffer.
use mathlib.Core.Path.{◌≡◌, refl, sym, ap, ◌∙◌}
use mathlib.Core.Bool.{Bool, true, false, not, ◌&&◌, false≢true}
use mathlib.Core.List.{List, [], ◌∷◌, ◌++◌, append_assoc, append-nil}
use Prim.Native.Nat.{ℕ, ◌+◌, ◌≤◌}
use native.Mathlib.Omega.{arith}
use borrow.Author.Tests.{le-ltb}
use lib.Dec.{eqb}
use lib.ListN.{length, drop, length-append}
use Rattle.card.specs.Step.{World}
use Rattle.replay_read.specs.Read.{Request, LONGEST, read_line}
use Rattle.replay_read.specs.Keep.{Collected, collected, keep_byte, keep_all, kept}
use Rattle.replay_read.proofs.Laws.{keep_laws}
use Rattle.replay_write.specs.Write.{ROOM, fitted}
use Rattle.replay_answer.specs.Played.{Shown, on_text}
use Rattle.replay_line.specs.Replay.{play, replayed, play_line}
use Rattle.replay_session.specs.Session.{SessionState, NEWLINE, place_in, gathered, gather_into, line_ended, heard, heard_all, is_line, are_lines, joined, play_all, answers}
use Rattle.replay_session.specs.Laws.{Chunks, Sessions}
use Rattle.replay_session.proofs.Gathered.{room_there, same_text, next-count, next-kept}

pub chunks : Chunks
unfolding heard_all
chunks s [] b = refl
chunks s (x ∷ a) b = chunks (heard s x) a b

first : (a b : Bool) → (a && b) ≡ true → a ≡ true
first true b e = refl
first false b e = absurd (false≢true e)

second : (a b : Bool) → (a && b) ≡ true → b ≡ true
second true b e = e
second false b e = absurd (false≢true e)

negative : (a : Bool) → not a ≡ true → a ≡ false
negative true e = absurd (false≢true e)
negative false e = refl

state : World → Collected → Collected → SessionState
state w c t = record { world = w; line = c; text = t }

-- a line without its newline is kept
line_kept : (w : World) (c t : Collected) (line : List ℕ) → is_line line ≡ true → heard_all (state w c t) line ≡ state w (keep_all c line) t
unfolding state heard_all heard is_line keep_all
line_kept w c t [] e = refl
line_kept w c t (b ∷ line) e =
    rw (negative (eqb b NEWLINE) (first (not (eqb b NEWLINE)) (is_line line) e))
    (line_kept w (keep_byte c b) t line (second (not (eqb b NEWLINE)) (is_line line) e))

-- ---- the newline ends it

module _ (w : World) (buffer : List ℕ) (t : Collected) (line : List ℕ) (size : length buffer ≡ LONGEST + 1)
    (room : ROOM ≤ length t.buffer) (one : is_line line ≡ true) where
  full : Collected
  full = keep_all (collected buffer 0) line

  -- the text behind it
  answered : Collected
  answered = gathered t (fitted (replayed w line).text (drop (place_in t) t.buffer))

  shown_at : play_line w (kept full) (drop (place_in t) t.buffer) ≡ on_text (replayed w line) (drop (place_in t) t.buffer)
  unfolding play_line full
  shown_at =
      rw (le-ltb (length (drop (place_in t) t.buffer)) ROOM (room_there t line room))
      (ap (λ (r : Request). on_text (play w r) (drop (place_in t) t.buffer)) (keep_laws.read buffer line size))

  line-played : (rest : List ℕ)
      → heard_all (state w (collected buffer 0) t) (line ++ (NEWLINE ∷ rest)) ≡ heard_all (state (replayed w line).world (collected full.buffer 0) answered) rest
  unfolding heard_all heard line_ended state answered full
  line-played rest =
      chunks (state w (collected buffer 0) t) line (NEWLINE ∷ rest)
      ∙ ap (λ (s : SessionState). heard_all s (NEWLINE ∷ rest)) (line_kept w (collected buffer 0) t line one)
      ∙ ap (λ (x : Shown). heard_all (gather_into full t x) rest) shown_at

  same-buffer : length full.buffer ≡ LONGEST + 1
  unfolding full
  same-buffer = keep_laws.size (collected buffer 0) line ∙ size

  same-room : length answered.buffer ≡ length t.buffer
  unfolding answered
  same-room = same_text t (replayed w line).text room

  next : t.count + length (replayed w line).text + ROOM ≤ length t.buffer
      → (answered.count ≡ t.count + length (replayed w line).text) × (kept answered ≡ kept t ++ (replayed w line).text)
  unfolding answered
  next h = (next-count t (replayed w line).text h, next-kept t (replayed w line).text h)

-- ---- line by line, from any text with room

abbrev from : World → List ℕ → Collected → List (List ℕ) → List ℕ → SessionState
from w buffer t lines last = heard_all (state w (collected buffer 0) t) (joined lines last)

record Ends (w : World) (t : Collected) (all : List (List ℕ)) (rest : List ℕ) (s : SessionState) : Type 0 where
  world : s.world ≡ play_all w all
  line : read_line (kept s.line) ≡ read_line rest
  text : t.count + length (answers w all) + ROOM ≤ length t.buffer → kept s.text ≡ kept t ++ answers w all

ends : (w : World) (buffer : List ℕ) (t : Collected) (lines : List (List ℕ)) (last : List ℕ) → length buffer ≡ LONGEST + 1
    → ROOM ≤ length t.buffer → are_lines lines ≡ true → is_line last ≡ true → Ends w t lines last (from w buffer t lines last)
unfolding are_lines joined play_all answers state
ends w buffer t [] last size room e l =
    let heard = line_kept w (collected buffer 0) t last l in
    record {
      world = ap (λ (s : SessionState). s.world) heard;
      line = ap (λ (s : SessionState). read_line (kept s.line)) heard ∙ keep_laws.read buffer last size;
      text = λ h. ap (λ (s : SessionState). kept s.text) heard ∙ sym (append-nil (kept t));
    }
ends w buffer t (line ∷ lines) last size room e l =
    let one : is_line line ≡ true = first (is_line line) (are_lines lines) e in
    let after : World = (replayed w line).world in
    let more = ends after (full w buffer t line size room one).buffer (answered w buffer t line size room one) lines last
    (same-buffer w buffer t line size room one) (omega (arith, same-room w buffer t line size room one)) (second (is_line line) (are_lines lines) e) l in
    let step = line-played w buffer t line size room one (joined lines last) in
    record {
      world = ap (λ (s : SessionState). s.world) step ∙ more.world;
      line = ap (λ (s : SessionState). read_line (kept s.line)) step ∙ more.line;
      text = λ h.
          let long = length-append (replayed w line).text (answers after lines) in
          let fits = next w buffer t line size room one (omega arith) in
          ap (λ (s : SessionState). kept s.text) step
          ∙ more.text (omega (arith, fits.0, same-room w buffer t line size room one))
          ∙ ap (λ (l : List ℕ). l ++ answers after lines) fits.1
          ∙ append_assoc (kept t) (replayed w line).text (answers after lines);
    }

pub sessions : Sessions
unfolding state
sessions w buffer text lines last size room e l =
    let all = ends w buffer (collected text 0) lines last size room e l in
    record { lines = all.world; last = all.line; text = λ h. all.text (omega arith) }
