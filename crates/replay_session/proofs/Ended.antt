-- A line that is ended: its answer goes to its place in the text.
use mathlib.Core.Path.{◌≡◌, refl, sym, ap, ap₂, subst, ◌∙◌}
use mathlib.Core.Bool.{Bool, true, false}
use mathlib.Core.List.{List, [], ◌∷◌, ◌++◌, append-nil}
use denote.Ref.{Bor, MutBor}
use Prim.Native.Nat.{ℕ, ◌+◌, ◌-◌, ◌≤◌, min}
use native.Mathlib.Omega.{arith}
use borrow.Author.Tests.{ltb-false, leb-true, eqb-true, eqb-false}
use borrow.Rule.Slice.PartMut.{put_mid, Post-is}
use lib.Dec.{ltb, leb, eqb}
use lib.ListN.{length, take, drop, length-drop, drop_of_length-le}
use lib.Seq.{take_all}
use Rattle.codec.specs.Answer.{Encoding, encoded}
use Rattle.card.specs.Step.{World, world}
use Rattle.card.proofs.Choices.{cond_elim}
use Rattle.card.specs.declared.Card.{Card}
use Rattle.replay_read.specs.Keep.{collected, kept}
use Rattle.replay_write.specs.Write.{fitted, ROOM, size, place}
use Rattle.replay_answer.specs.declared.Replayed.{Replayed}
use Rattle.replay_answer.specs.declared.Session.{Session}
use Rattle.replay_answer.specs.Played.{Shown, shown}
use Rattle.replay_line.specs.Replay.{replayed, play_line}
use Rattle.replay_session.specs.Session.{SessionState, NEWLINE, place_in, gather_into, line_ended, heard, heard_all, session, Plays, Post, PlayedBy, ended_with, LineEnds, Hears, HearsAll}

le_self : (n : ℕ) → n ≤ n
le_self n = omega arith

-- an answer is no longer than the text that it is written to
fitted-within : (line text : List ℕ) → size (fitted line text).answer ≤ length text
unfolding fitted
fitted-within line text =
    cond_elim (λ (e : Encoding). size e.answer ≤ length text) (ltb (length text) (length line)) (λ e. omega arith) (λ e. ltb-false (length text) (length line) e)

answer-within : (w : World) (line text : List ℕ) → size (play_line w line text).line.answer ≤ length text
unfolding play_line
answer-within w line text =
    cond_elim (λ (x : Shown). size x.line.answer ≤ length text) (ltb (length text) ROOM) (λ e. omega arith)
    (λ e. fitted-within (replayed w line).text text)

place-inside : (bytes count : ℕ) → place bytes count ≤ bytes
place-inside bytes count =
    cond_elim (λ (n : ℕ). n ≤ bytes) (leb (count + ROOM) bytes) (λ e. omega (arith, leb-true (count + ROOM) bytes e)) (λ e. omega arith)

-- all that is behind the place is lent
pub all-behind : (at : ℕ) (text : List ℕ) → take (length text - at) (drop at text) ≡ drop at text
all-behind at text = take_all (length text - at) (drop at text) (omega (arith, length-drop at text))

module _ (s : Session) (memory line text after rest : List ℕ) (at : ℕ) (r : Replayed) (placed : at ≡ place (length text) s.wrote)
    (inside : at ≤ length text) where
  pub line-ends : (plays : Plays) → plays (world s.card memory) (take s.count line) (drop at text) (shown r after rest)
      → (k : ℕ) → k ≡ min (at + size (encoded r.wrote)) (length text)
      → LineEnds plays (session s memory line text)
      (session (record { card = r.card; count = 0; wrote = k }) after line (put_mid at (length text - at) text rest))
  unfolding LineEnds
  line-ends plays p k h =
      let none : put_mid at (length text - at) text rest ≡ take at text ++ rest =
      ap (λ (l : List ℕ). take at text ++ (rest ++ l))
      (Post-is at (length text) text inside ∙ drop_of_length-le text (le_self (length text)))
      ∙ ap (λ (l : List ℕ). take at text ++ l) (append-nil rest) in (
        shown r after rest,
        rw placed at p,
        ap₂ (λ (l : List ℕ) (n : ℕ). session (record { card = r.card; count = 0; wrote = n }) after line l) none h ∙ rw placed refl,
      )

pub played-by : (post : Post) (w : World) (line text : List ℕ) (m : MutBor (List ℕ)) (l : Bor (List ℕ)) (t : MutBor (List ℕ))
    (r : Replayed) (m' t' : MutBor (List ℕ)) → post w.card m l t r m' t' → m.now ≡ w.memory → l.now ≡ line → t.now ≡ text
    → PlayedBy post w line text (shown r m'.now t'.now)
unfolding PlayedBy
played-by post w line text m l t r m' t' met a b d = (m, l, t, r, m', t', a, b, d, met, refl)

-- ---- lines that are played on the card

pub played-is : {post : Post}
    → ((card : Card) (m : MutBor (List ℕ)) (l : Bor (List ℕ)) (t : MutBor (List ℕ)) (r : Replayed) (m' t' : MutBor (List ℕ))
    → post card m l t r m' t' → shown r m'.now t'.now ≡ play_line (world card m.now) l.now t.now)
    → (w : World) (line text : List ℕ) (x : Shown) → PlayedBy post w line text x → x ≡ play_line w line text
unfolding PlayedBy
played-is is w line text x (m, l, t, r, m', t', a, b, d, met, e) = e ∙ is w.card m l t r m' t' met ∙ rw (a, b, d) refl

module _ (plays : Plays) (is : (w : World) (line text : List ℕ) (x : Shown) → plays w line text x → x ≡ play_line w line text) where
  -- an answer of the card ends in the text
  in_text : (s : SessionState) (x : Shown) → x ≡ play_line s.world (kept s.line) (drop (place_in s.text) s.text.buffer)
      → ended_with s x ≡ gather_into s.line s.text x
  in_text s x e =
      let bytes : ℕ = length s.text.buffer in
      let short : size x.line.answer ≤ length (drop (place_in s.text) s.text.buffer) =
      subst (λ (y : Shown). size y.line.answer ≤ length (drop (place_in s.text) s.text.buffer)) (sym e)
      (answer-within s.world (kept s.line) (drop (place_in s.text) s.text.buffer)) in
      let sum : min (place_in s.text + size x.line.answer) bytes ≡ place_in s.text + size x.line.answer =
      omega (arith, short, length-drop (place_in s.text) s.text.buffer, place-inside bytes s.text.count) in
      ap (λ (n : ℕ). record {
        world = x.world;
        line = collected s.line.buffer 0;
        text = collected (take (place_in s.text) s.text.buffer ++ x.line.buffer) n;
      }) sum

  pub line-is : (s t : SessionState) → LineEnds plays s t → t ≡ line_ended s
  unfolding LineEnds line_ended
  line-is s t (x, p, e) =
      let same = is s.world (kept s.line) (drop (place_in s.text) s.text.buffer) x p in
      e ∙ in_text s x same ∙ ap (gather_into s.line s.text) same

  pub byte-is : (s : SessionState) (byte : ℕ) (t : SessionState) → Hears plays s byte t → t ≡ heard s byte
  unfolding Hears heard
  byte-is s byte t h = by (eqb byte NEWLINE) refl
    where
      by : (b : Bool) → eqb byte NEWLINE ≡ b → t ≡ heard s byte
      by true e = rw e (line-is s t (h.0 (eqb-true _ _ e)))
      by false e = rw e (h.1 (eqb-false _ _ e))

  pub all-is : (chunk : List ℕ) (s t : SessionState) → HearsAll plays s chunk t → t ≡ heard_all s chunk
  unfolding HearsAll heard_all
  all-is [] s t e = sym e
  all-is (byte ∷ rest) s t (m, h, r) = all-is rest m t r ∙ ap (λ (y : SessionState). heard_all y rest) (byte-is s byte m h)
