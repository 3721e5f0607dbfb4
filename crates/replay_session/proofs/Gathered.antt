-- A text with one more line at its place.
use mathlib.Core.Path.{◌≡◌, refl, sym, ap, ◌∙◌}
use mathlib.Core.Bool.{false}
use mathlib.Core.List.{List, ◌++◌, append_assoc}
use Prim.Native.Nat.{ℕ, ◌+◌, ◌≤◌}
use native.Mathlib.Omega.{arith}
use borrow.Author.Tests.{le-leb, le-ltb, leb-true, ltb-false}
use lib.Dec.{leb, ltb}
use lib.ListN.{length, take, drop, length-append, length-drop}
use lib.Seq.{take_at, length-take-le}
use Rattle.codec.specs.Answer.{Encoding}
use Rattle.card.proofs.Choices.{cond_elim}
use Rattle.replay_read.specs.Keep.{Collected, kept}
use Rattle.replay_write.specs.Write.{fitted, ROOM, place}
use Rattle.replay_session.specs.Session.{place_in, gathered}

-- at its place there is room for the longest line
room_at : (bytes count : ℕ) → ROOM ≤ bytes → place bytes count + ROOM ≤ bytes
room_at bytes count h =
    cond_elim (λ (n : ℕ). n + ROOM ≤ bytes) (leb (count + ROOM) bytes) (λ e. leb-true (count + ROOM) bytes e) (λ e. omega arith)

length-fitted : (line text : List ℕ) → length (fitted line text).buffer ≡ length text
unfolding fitted
length-fitted line text =
    cond_elim (λ (e : Encoding). length e.buffer ≡ length text) (ltb (length text) (length line)) (λ e. refl)
    (λ e. omega (arith, ltb-false (length text) (length line) e, length-append line (drop (length line) text), length-drop (length line) text))

module _ (t : Collected) (line : List ℕ) (room : ROOM ≤ length t.buffer) where
  pub room_there : ROOM ≤ length (drop (place_in t) t.buffer)
  room_there = omega (arith, room_at (length t.buffer) t.count room, length-drop (place_in t) t.buffer)

  pub same_text : length (gathered t (fitted line (drop (place_in t) t.buffer))).buffer ≡ length t.buffer
  same_text =
      omega (
        arith,
        length-append (take (place_in t) t.buffer) (fitted line (drop (place_in t) t.buffer)).buffer,
        length-fitted line (drop (place_in t) t.buffer),
        length-drop (place_in t) t.buffer,
        length-take-le (place_in t) t.buffer (omega (arith, room_at (length t.buffer) t.count room)),
        room_at (length t.buffer) t.count room,
      )

-- a line that fits, with room for one more behind it, is put behind the others
module _ (t : Collected) (line : List ℕ) (room : t.count + length line + ROOM ≤ length t.buffer) where
  abbrev next : Collected
  next = gathered t (fitted line (drop (place_in t) t.buffer))

  behind : place_in t ≡ t.count
  behind = rw (le-leb (t.count + ROOM) (length t.buffer) (omega arith))

  whole : ltb (length (drop t.count t.buffer)) (length line) ≡ false
  whole = le-ltb (length (drop t.count t.buffer)) (length line) (omega (arith, length-drop t.count t.buffer))

  pub next-count : next.count ≡ t.count + length line
  unfolding fitted
  next-count = rw (behind, whole)

  pub next-kept : kept next ≡ kept t ++ line
  unfolding fitted
  next-kept =
      let rest : List ℕ = drop (length line) (drop t.count t.buffer) in
      rw (behind, whole)
      (ap (take (t.count + length line)) (sym (append_assoc (kept t) line rest))
      ∙ take_at (kept t ++ line) rest (t.count + length line)
      (omega (arith, length-append (kept t) line, length-take-le t.count t.buffer (omega arith))))
