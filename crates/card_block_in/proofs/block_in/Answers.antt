-- Refused; a packet; the stop token; or nothing that counts.
use mathlib.Core.Path.{◌≡◌, refl, sym, ap, ◌∙◌, subst}
use mathlib.Core.Bool.{Bool, false, not}
use mathlib.Core.List.{List}
use Prim.Native.Nat.{ℕ}
use lib.ListN.{length, drop}
use Rattle.std.specs.Prelude.{Result, Ok}
use Rattle.codec.specs.declared.Refusal.{Refusal}
use Rattle.codec.specs.Answer.{row_in}
use Rattle.card.specs.declared.answer.Answer.TheVariants.{Silence}
use Rattle.card.specs.declared.answer.Rows.{Rows}
use Rattle.card.specs.declared.Open.{Open}
use Rattle.card.specs.declared.Card.{Card}
use Rattle.card.specs.State.{open_of, checking, writing}
use Rattle.card.specs.Step.{BLOCK_ROWS, Incoming, stop, ignored, packet_in, incoming, entered, arrived, block_in, step, given, refusal, token_size, packet_size, lone_byte, other_block, world}
use Rattle.card_call.specs.Seen.{Seen, seen, stepped}
use Rattle.card_call.proofs.Turns as Turns
use Rattle.card_refuse.specs.Rows.{rows_of}
use Rattle.card_refuse.proofs.Refusals.{none-applies, refuses, runs}
use Rattle.card_token.specs.declared.Arrived.{Arrived}
use Rattle.card_token.specs.Tokens.{other_length, kind}
use Rattle.card_token.proofs.Tokens.{packet_as, stop_as, ignored_as}
use Rattle.card_block_in.specs.Enters.{Enters, packet_turned}
use Rattle.card_block_in.proofs.Gives.{enters, same_rows, same-packet}
use Rattle.card_block_in.proofs.block_in.Goals as goal

-- the model's rows
abbrev rows : Card → List ℕ → List ℕ → Rows
rows card memory block = rows_of card.core card.password.length (length memory) (other_block card.core block) false (not (writing (open_of card.core.bus.state)))

module _ (card : Card) (memory block : List ℕ) {o : Open} (state : o ≡ open_of card.core.bus.state) where
  rows_as : {r : Rows} {size writes : Bool} → size ≡ other_length card.core.bus.mode o card.core.length (length block) → writes ≡ writing o
      → r ≡ rows_of card.core card.password.length (length memory) size false (not writes) → r ≡ rows card memory block
  unfolding packet_size lone_byte
  rows_as size writes h = same_rows card.core card.password.length (length memory) (length block) state size writes h

  -- what came in, as the code told it
  told : {k : Arrived} → k ≡ kind (incoming card.core.bus.mode o block) → kind (arrived (world card memory) block) ≡ k
  told h = ap (λ (x : Open). kind (incoming card.core.bus.mode x block)) (sym state) ∙ sym h

module _ (card : Card) (memory block : List ℕ) (x : Result (Unit {0}) Refusal) (r : Rows) (judged : row_in x ≡ refusal BLOCK_ROWS r)
    (same : r ≡ rows card memory block) where
  came : {u : Unit {0}} → x ≡ Ok u → (y : Incoming) (v : Seen) → arrived (world card memory) block ≡ y
      → v ≡ seen (entered (world card memory) y) → v ≡ stepped card memory (block_in block)
  unfolding step given
  came ok y v k h =
      runs x BLOCK_ROWS r _ judged same _ _ _ _ _ ok (h ∙ ap (λ (z : Incoming). seen (entered (world card memory) z)) (sym k))

pub returns-in-Err : goal.returns-in-Err
unfolding step given
returns-in-Err c =
    refuses c.check.result BLOCK_ROWS c.rows-r.result _ c.check.ensures
    (rows_as c.args.card c.args.memory.now c.args.block.now c.open-open.ensures c.other_block.ensures c.writing.ensures c.rows-r.ensures)
    _ _ _ _ c.refused.result c.in-Err.is c.refused.ensures

pub enter-requires : goal.enter-requires
enter-requires c =
    let args = c.args in
    let s = args.block.now in
    let same = rows_as args.card args.memory.now s c.open-open.ensures c.other_block.ensures c.writing.ensures c.rows-r.ensures in
    subst (λ (p : List ℕ). Enters args.card.core c.open-open.result args.memory.now p) (sym (c.behind.ensures ∙ ap (λ (n : ℕ). drop n s) c.token_size.ensures.0))
    (enters args.card.core _ args.memory.now s _ (none-applies c.check.result BLOCK_ROWS c.rows-r.result _ c.check.ensures same c.in_default.is)
    c.open-open.result c.open-open.ensures (sym c.incoming.ensures ∙ c.in-Packet.is))

pub returns-in-Packet : goal.returns-in-Packet
unfolding entered
returns-in-Packet c =
    let args = c.args in
    let mode = args.card.core.bus.mode in
    let s = args.block.now in
    came args.card args.memory.now s c.check.result c.rows-r.result c.check.ensures
    (rows_as args.card args.memory.now s c.open-open.ensures c.other_block.ensures c.writing.ensures c.rows-r.ensures) c.in_default.is
    (packet_in (checking mode) (drop (token_size mode) s)) _
    (packet_as mode (open_of args.card.core.bus.state) s (told args.card args.memory.now s c.open-open.ensures c.incoming.ensures ∙ c.in-Packet.is))
    (same-packet args.card s args.memory.now c.open-open.ensures c.checking.ensures c.token_size.ensures.0
    (c.enter.ensures ∙ ap (λ (p : List ℕ). packet_turned args.card c.open-open.result c.checking.result p args.memory.now) c.behind.ensures))

pub returns-in-Stop : goal.returns-in-Stop
unfolding entered
returns-in-Stop c =
    let args = c.args in
    let s = args.block.now in
    came args.card args.memory.now s c.check.result c.rows-r.result c.check.ensures
    (rows_as args.card args.memory.now s c.open-open.ensures c.other_block.ensures c.writing.ensures c.rows-r.ensures) c.in_default.is
    stop _ (stop_as _ (told args.card args.memory.now s c.open-open.ensures c.incoming.ensures ∙ c.in-Stop.is))
    (Turns.silent c.answered.result _ _ _ c.moved-next.ensures refl _ _ c.answered.ensures)

pub returns-in-Ignored : goal.returns-in-Ignored
unfolding entered
returns-in-Ignored c =
    let args = c.args in
    let card = args.card in
    let s = args.block.now in
    came card args.memory.now s c.check.result c.rows-r.result c.check.ensures
    (rows_as card args.memory.now s c.open-open.ensures c.other_block.ensures c.writing.ensures c.rows-r.ensures) c.in_default.is
    ignored _ (ignored_as _ (told card args.memory.now s c.open-open.ensures c.incoming.ensures ∙ c.in-Ignored.is))
    (Turns.silent (Turns.after card card.core Silence) card card.core card.core refl refl _ _ refl)
