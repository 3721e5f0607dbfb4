-- A payload that is sent whole is the turn's block.
use mathlib.Core.Path.{◌≡◌, refl, sym, ap, ap₂, ◌∙◌}
use mathlib.Core.Bool.{Bool, true, false, cond}
use mathlib.Core.List.{List, ◌++◌}
use Prim.Native.Nat.{ℕ, ◌≤◌}
use native.Mathlib.Omega.{arith}
use lib.ListN.{length}
use Rattle.crc.specs.Bits.{bytes}
use Rattle.crc.proofs.Bits.{length-bytes}
use Rattle.codec.specs.Answer.{emit}
use Rattle.wire_packet.specs.Packet.{packet}
use Rattle.card.specs.declared.State.{State}
use Rattle.card.specs.declared.Card.{Card}
use Rattle.card.specs.Settings.{BLOCK}
use Rattle.card.specs.Record.{with_state}
use Rattle.card.specs.State.{in_spi}
use Rattle.card.specs.Effects.{affected}
use Rattle.card.specs.Frame.{block, said}
use Rattle.card.specs.Step.{wire, reply_of, flagged, show, token_size, block_room, led_message, led}
use Rattle.card_call.specs.declared.Stepped.{Stepped}
use Rattle.card_call.specs.Seen.{returned, turned}
use Rattle.card_send.specs.Sending.{leading, sending, sent}
use Rattle.card_send.proofs.Led.{encode-done}

room_for : (spi : Bool) → length (leading spi) ≡ cond spi 1 0
room_for true = refl
room_for false = refl

-- the bytes that were emitted are the block and what leads it
shown : (card : Card) (next : State) (memory out p : List ℕ) (spi : Bool)
    → sending card (with_state card.core next) memory (emit (leading spi ++ packet p) out)
    ≡ turned card memory out (said (with_state card.core next) (led_message spi (block p)))
unfolding show wire reply_of flagged affected led_message
shown card next memory out p true = refl
shown card next memory out p false = refl

module _ (r : Stepped) (card : Card) (next : State) (memory out made : List ℕ) (room : block_room card.core ≤ length out) where
  pub block-sent : (p : List ℕ) → 1 ≤ length p → length p ≤ BLOCK → (d : State) (q : List ℕ) → d ≡ next → q ≡ p
      → returned r memory made ≡ sent card d q memory out
      → returned r memory made ≡ turned card memory out (led card.core.bus.mode (said (with_state card.core next) (block p)))
  unfolding token_size
  block-sent p low high d q same-state same-payload h =
      let spi = in_spi card.core.bus.mode in
      h
      ∙ ap₂ (λ (x : State) (s : List ℕ). sent card x s memory out) same-state same-payload
      ∙ ap (sending card (with_state card.core next) memory) (sym (encode-done spi p out low high (omega (arith, room_for spi, room))))
      ∙ shown card next memory out p spi

  pub word-sent : (bs : List Bool) → returned r memory made ≡ sent card next (bytes 4 bs) memory out
      → returned r memory made ≡ turned card memory out (led card.core.bus.mode (said (with_state card.core next) (block (bytes 4 bs))))
  word-sent bs h =
      let n = length-bytes 4 bs in
      block-sent (bytes 4 bs) (omega (arith, n)) (omega (arith, n)) next (bytes 4 bs) refl refl h

  pub register-sent : (p : List ℕ) → length p ≡ 16 → returned r memory made ≡ sent card next p memory out
      → returned r memory made ≡ turned card memory out (led card.core.bus.mode (said (with_state card.core next) (block p)))
  register-sent p n h = block-sent p (omega arith) (omega arith) next p refl refl h
