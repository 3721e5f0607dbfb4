-- What the tokens of a block tell, and row 1 of a block by its length.
use Rattle.std.specs.Prelude.{Bool, cond, not, ◌&&◌, ◌||◌, ℕ, ◌+◌, eqb}
use Rattle.wire_packet.specs.Packet.{CHECK}
use Rattle.card.specs.declared.Mode.{Mode}
use Rattle.card.specs.declared.Open.{Open}
use Rattle.card.specs.Settings.{BLOCK}
use Rattle.card.specs.State.{in_spi, writing_multiple, locking}
use Rattle.card.specs.Step as Step
use Rattle.card.specs.Step.{payload, stop, ignored, token_size}
use Rattle.card_token.specs.declared.Arrived.{Arrived}
use Rattle.card_token.specs.declared.Arrived.TheVariants.{Packet, Stop, Ignored}

-- `Step.packet_size` and `Step.other_block`, by what they ask of record and block
abbrev pub packet_bytes : Bool → ℕ → ℕ
packet_bytes locks length = cond locks length BLOCK + CHECK

abbrev pub other_length : Mode → Open → ℕ → ℕ → Bool
other_length m o length n =
    not (eqb n (token_size m + packet_bytes (locking o) length) || ((in_spi m && writing_multiple o) && eqb n 1))

-- what came in, but for its payload
abbrev pub kind : Step.Incoming → Arrived
kind (payload right s) = Packet
kind stop = Stop
kind ignored = Ignored
