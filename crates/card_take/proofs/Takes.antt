-- What the rows of a take that do not apply tell.
use mathlib.Core.Path.{◌≡◌, refl, sym, ap, ap₂, ◌∙◌}
use mathlib.Core.Bool.{Bool, true, false, cond, not}
use mathlib.Core.List.{List}
use mathlib.Core.Logic.{◌⊎◌, inl, inr}
use mathlib.Core.Option.{none}
use Prim.Native.Nat.{ℕ, ◌+◌, ◌*◌, ◌%◌, ◌<◌, ◌≤◌}
use native.Mathlib.Omega.{arith}
use borrow.Author.Tests.{ltb-false}
use lib.Dec.{ltb}
use lib.ListN.{length}
use Rattle.std.specs.Prelude.{Option, Some, None}
use Rattle.std.specs.Option.{unwrap_or}
use Rattle.std.proofs.lemmas.Option.{none-some}
use Rattle.wire_packet.specs.Packet.{CHECK}
use Rattle.card.specs.declared.answer.Rows.{Rows}
use Rattle.card.specs.declared.Sink.{Sink}
use Rattle.card.specs.declared.State.{State}
use Rattle.card.specs.declared.Open.{Open}
use Rattle.card.specs.declared.Open.TheVariants.{Nothing, Write, Busy}
use Rattle.card.specs.State.{open_of, reading}
use Rattle.card.specs.declared.Core.{Core}
use Rattle.card.specs.declared.done.Flag.TheVariants.{Keep}
use Rattle.card.specs.Settings.{BLOCK}
use Rattle.card.specs.Status.{OUT_OF_RANGE, ADDRESS_ERROR}
use Rattle.card.specs.Frame.{Turn, quiet}
use Rattle.card.specs.Data.{take_from}
use Rattle.card.specs.Step.{TAKE_ROWS, applies, refusal, token_size, block_room}
use Rattle.card_refuse.specs.Rows.{rows_of}
use Rattle.card.proofs.Facts.{facts-sound}
use Rattle.card_refuse.proofs.Passed.{passed, sound_record, sized}
use Rattle.card_take.specs.Takes.{Takes}

-- a read that stays in its block stays in the card
pub inside : (a n b : ℕ) → a < b * BLOCK → a % BLOCK + n ≤ BLOCK → a + n ≤ b * BLOCK
inside a n b h k = omega arith

pub takes : (c : Core) (password : ℕ) (memory out : List ℕ) (closed : Bool)
    → refusal TAKE_ROWS (rows_of c password (length memory) false (ltb (length out) (block_room c)) closed) ≡ none → Takes c memory out
unfolding applies
takes c password memory out closed e =
    let row = passed TAKE_ROWS (rows_of c password (length memory) false (ltb (length out) (block_room c)) closed) e in
    let sound = sound_record c password (row 0) in
    let size = (facts-sound c sound).0.size in
    record {
      size = sized c (length memory) sound (row 1);
      low = size.low;
      high = size.high;
      room = ltb-false (length out) (block_room c) (row 2);
    }

-- the rows as the code has them
pub rows_as : (c : Core) (password memory out : ℕ) {r : Rows} {o : Open} {token : ℕ} {b : Bool} → o ≡ open_of c.bus.state → token ≡ token_size c.bus.mode → b ≡ reading o
    → r ≡ rows_of c password memory false (ltb out (token + (BLOCK + CHECK))) (not b)
    → r ≡ rows_of c password memory false (ltb out (block_room c)) (not (reading (open_of c.bus.state)))
rows_as c password memory out state size read h =
    h ∙ ap₂ (λ (n : ℕ) (x : Bool). rows_of c password memory false (ltb out (n + (BLOCK + CHECK))) (not x)) size (read ∙ ap reading state)

-- ---- the bit that holds a read, by its two tests

abbrev pub bit_of : Bool → Bool → Option ℕ
bit_of o x = cond o (Some OUT_OF_RANGE) (cond x (Some ADDRESS_ERROR) None)

pub holds : (o x : Bool) (n : ℕ) (f : ℕ → Turn) (t : Turn) → Some n ≡ bit_of o x
    → f n ≡ cond o (f OUT_OF_RANGE) (cond x (f ADDRESS_ERROR) t)
holds true x n f t h = ap (λ (o : Option ℕ). f (unwrap_or o 0)) h
holds false true n f t h = ap (λ (o : Option ℕ). f (unwrap_or o 0)) h
holds false false n f t h = absurd (none-some n (sym h))

pub in_range : (o x : Bool) → None ≡ bit_of o x → o ≡ false
in_range true x h = absurd (none-some _ h)
in_range false x h = refl

pub in_block : (o x : Bool) → None ≡ bit_of o x → x ≡ false
in_block true x h = absurd (none-some _ h)
in_block false true h = absurd (none-some _ h)
in_block false false h = refl

-- ---- where no read is open

pub unread : (q : Open) → (q ≡ Nothing) ⊎ (((s : Sink) × (q ≡ Write s)) ⊎ ((s : State) × (q ≡ Busy s))) → (c : Core) (memory : List ℕ)
    → take_from q c memory ≡ quiet c Keep
unfolding take_from
unread q (inl e) c memory = ap (λ (x : Open). take_from x c memory) e
unread q (inr (inl (s, e))) c memory = ap (λ (x : Open). take_from x c memory) e
unread q (inr (inr (s, e))) c memory = ap (λ (x : Open). take_from x c memory) e
