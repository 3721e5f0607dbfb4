-- What a caller sees of a block that is sent: its bytes, or a refusal.
use Rattle.std.specs.Prelude.{Bool, cond, ◌&&◌, List, [], ◌∷◌, ◌++◌, ℕ, ◌+◌, leb, ltb, length}
use Rattle.codec.specs.Answer.{SIZE, BUFFER, Encoding, refuse, emit}
use Rattle.wire_packet.specs.Packet.{PAYLOAD, CHECK, packet}
use Rattle.card.specs.declared.State.{State}
use Rattle.card.specs.declared.Core.{Core}
use Rattle.card.specs.declared.Card.{Card}
use Rattle.card.specs.Record.{with_state}
use Rattle.card.specs.State.{in_spi}
use Rattle.card.specs.Spi.{START_BLOCK}
use Rattle.card_call.specs.Seen.{Seen}
use Rattle.card.specs.Replied.{replied}

-- what leads a block: in SPI mode its start token
abbrev pub leading : Bool → List ℕ
leading spi = cond spi (START_BLOCK ∷ []) []

-- row 1, row 4, or the bytes
unfoldable pub encode_block : Bool → List ℕ → List ℕ → Encoding
encode_block spi payload out =
    cond (leb 1 (length payload) && leb (length payload) PAYLOAD)
    (cond (ltb (length out) (length (leading spi) + (PAYLOAD + CHECK))) (refuse BUFFER out) (emit (leading spi ++ packet payload) out))
    (refuse SIZE out)

-- an encoding, with the record that the call leaves
abbrev pub sending : Card → Core → List ℕ → Encoding → Seen
sending card core memory e = record {
  answer = replied e.answer;
  card = record { core = core; password = card.password; line = card.line };
  memory = memory;
  out = e.buffer;
}

-- a payload as a block, and on to the next state
abbrev pub sent : Card → State → List ℕ → List ℕ → List ℕ → Seen
sent card next payload memory out = sending card (with_state card.core next) memory (encode_block (in_spi card.core.bus.mode) payload out)
