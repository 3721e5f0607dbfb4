-- One byte that is heard.
use mathlib.Core.Path.{◌≡◌, refl, ap}
use mathlib.Core.List.{List}
use Prim.Native.Nat.{ℕ, ◌+◌, ◌≤◌, ◌<◌}
use native.Mathlib.Numerals.{add-one}
use lib.ListN.{length, get_or, drop, drop_of_length-le}
use lib.Seq.{drop-cons}
use Rattle.card.specs.Step.{world}
use Rattle.replay_read.specs.Keep.{Collected, collected, keep_byte}
use Rattle.replay_answer.specs.declared.Session.{Session}
use Rattle.replay_session.specs.Session.{SessionState, NEWLINE, session, Plays, LineEnds, Hears, HearsAll}

module _ (plays : Plays) where
  pub ends-line : (s t : SessionState) (byte : ℕ) → byte ≡ NEWLINE → LineEnds plays s t → Hears plays s byte t
  unfolding Hears
  ends-line s t byte is e = (λ same. e, λ not. absurd (not is))

  pub keeps_byte : (s : Session) (memory line text after : List ℕ) (count byte : ℕ) → (byte ≡ NEWLINE → ⊥)
      → collected after count ≡ keep_byte (collected line s.count) byte
      → Hears plays (session s memory line text) byte (session (record { card = s.card; count = count; wrote = s.wrote }) memory after text)
  unfolding Hears
  keeps_byte s memory line text after count byte not e = (
    λ is. absurd (not is),
    λ n. ap {B = SessionState} (λ (c : Collected). record { world = world s.card memory; line = c; text = collected text s.wrote }) e,
  )

  -- at the loop's head the bytes that are left lead where all of them lead
  pub next-byte : (s t all : SessionState) (chunk : List ℕ) (i : ℕ) → i < length chunk → Hears plays s (get_or chunk i 0) t
      → ((last : SessionState) → HearsAll plays s (drop i chunk) last → HearsAll plays all chunk last)
      → (last : SessionState) → HearsAll plays t (drop (i + 1) chunk) last → HearsAll plays all chunk last
  unfolding HearsAll
  next-byte s t all chunk i h e inv last rest = inv last (rw (drop-cons chunk i 0 h) (t, e, rw (add-one i) at rest))

  pub all-heard : (s all : SessionState) (chunk : List ℕ) (i : ℕ) → length chunk ≤ i
      → ((last : SessionState) → HearsAll plays s (drop i chunk) last → HearsAll plays all chunk last) → HearsAll plays all chunk s
  unfolding HearsAll
  all-heard s all chunk i h inv = inv s (rw (drop_of_length-le chunk h) refl)
