-- What a block in asks of the open transfer and of the packet.
use Rattle.std.specs.Prelude.{◌≡◌, List, ℕ, ◌+◌, ◌%◌, ◌≤◌, length}
use Rattle.wire_packet.specs.Packet.{PAYLOAD, CHECK}
use Rattle.card.specs.declared.Core.{Core}
use Rattle.card.specs.Settings.{BLOCK, MOST}
use Rattle.card_refuse.specs.Rows.{Sized}

-- rows 2 and 3 have been passed
pub record Stores (c : Core) (address : ℕ) (memory : List ℕ) : Type 0 where
  pub size : Sized c (length memory)
  pub aligned : address % BLOCK ≡ 0
  pub count : c.written ≤ MOST

-- no shorter and no longer than a packet is
pub record Decodes (p : List ℕ) : Type 0 where
  pub low : 1 + CHECK ≤ length p
  pub high : length p ≤ PAYLOAD + CHECK
