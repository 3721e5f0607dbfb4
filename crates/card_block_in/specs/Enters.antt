-- A packet that came in, in either bus mode: what is known of it, and what it comes to.
use Rattle.std.specs.Prelude.{◌≡◌, Bool, false, not, ◌||◌, List, [], ℕ, ◌+◌, length}
use Rattle.wire_packet.specs.Packet.{CHECK, payload_of, packet_right}
use Rattle.card.specs.declared.Sink.{Sink}
use Rattle.card.specs.declared.Open.{Open}
use Rattle.card.specs.declared.Open.TheVariants.{Write}
use Rattle.card.specs.declared.Core.{Core}
use Rattle.card.specs.declared.Card.{Card}
use Rattle.card.specs.Settings.{BLOCK}
use Rattle.card.specs.State.{locking, sink_address}
use Rattle.card.specs.Data.{block_into, password_into}
use Rattle.card_call.specs.Seen.{Seen, turned_with}
use Rattle.card_lock_in.specs.Operates.{succeeded}
use Rattle.card_block_in.specs.Stores.{Stores, Decodes}

-- rows 1 to 3 have been passed; a packet of 24 or 25 is whole
pub record Enters (c : Core) (o : Open) (memory p : List ℕ) : Type 0 where
  pub stores : (s : Sink) → o ≡ Write s → Stores c (sink_address s) memory
  pub decodes : Decodes p
  pub whole : locking o ≡ false → length p ≡ BLOCK + CHECK

-- a payload, and whether its check is right, or not judged
abbrev pub payload_turned : Card → Open → Bool → List ℕ → List ℕ → Seen
payload_turned card o right s memory =
    let success = succeeded card s in
    turned_with card (password_into o right success card.password s) memory [] (block_into o right success card.core s)

abbrev pub packet_turned : Card → Open → Bool → List ℕ → List ℕ → Seen
packet_turned card o checks p memory = payload_turned card o (not checks || packet_right p) (payload_of p) memory
