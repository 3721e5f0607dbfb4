-- SEND_STATUS in an erase (02, order 1), and anywhere else, in both bus modes: it shows the status and changes nothing besides, so a list of calls comes
-- to the same with it and without it.
use Rattle.std.specs.Prelude.{◌≡◌, Bool, true, false, cond, List, [], ◌∷◌, ◌++◌, ℕ, ◌+◌, length, drop}
use Rattle.std.proofs.Math.Option.{none}
use Rattle.codec.specs.Answer.{done}
use Rattle.codec.specs.Format.{image}
use Rattle.wire_frame.specs.Command.{frame_check, good}
use Rattle.wire_response.specs.Response as Wire
use Rattle.card.specs.declared.command.Command.TheVariants.{SendStatus}
use Rattle.card.specs.Record.{with_kept}
use Rattle.card.specs.State.{number, in_spi}
use Rattle.card.specs.Status.{no_bits, status, at, shown}
use Rattle.card.specs.Table.{own as ownRca, legal}
use Rattle.card.specs.Spi.{COM_CRC_ERROR, r1_byte, r2_byte, in_idle}
use Rattle.card.specs.Step.{Call, power_up, command_frame, block_in, take_block, busy_over, World, world, Result, sent, line, frame_refusal, step, next}

-- ---- one call

-- 13 that runs as SEND_STATUS: for this card, not after 55, in one of its states; the call is not refused, so the record is sound
pub record SendsStatus (w : World) (frame out : List ℕ) : Type 0 where
  pub argument : ℕ
  pub check : frame_check frame ≡ good 13 argument
  pub own : ownRca w.card.core.bus argument ≡ true
  pub unmarked : w.card.core.bus.app ≡ false
  pub permitted : legal SendStatus w.card.core.bus ≡ true
  pub passed : frame_refusal w frame out ≡ none

-- its R1, and in SPI mode R2: the status bits that were kept, ERASE_RESET among them, and none of its own
abbrev pub status_r1 : World → List ℕ
status_r1 w =
    let word = status w.card.core.kept w.card.core.locked (number w.card.core.bus.state) false in
    image (Wire.r1 13) (shown w.card.line.com_crc_error word ∷ [])

abbrev pub status_r2 : World → List ℕ
status_r2 w =
    let c = w.card.core in
    (at COM_CRC_ERROR w.card.line.com_crc_error + r1_byte c.kept (in_idle c)) ∷ r2_byte c.kept c.locked ∷ []

unfoldable pub status_bytes : World → List ℕ
status_bytes w = cond (in_spi w.card.core.bus.mode) (status_r2 w) (status_r1 w)

-- what it shows it clears; the erase marks, the rest of the record and the memory stay
pub record StatusSent (w : World) (before : List ℕ) (r : Result) : Type 0 where
  pub answer : r.answer ≡ done (sent (length (status_bytes w)))
  pub out : r.out ≡ status_bytes w ++ drop (length (status_bytes w)) before
  pub world : r.world ≡ world (record { core = with_kept w.card.core no_bits; password = w.card.password; line = line false }) w.memory

abbrev pub SendStatusShows : Type 0
SendStatusShows = (w : World) (frame : List ℕ) (low : Bool) (out : List ℕ) → SendsStatus w frame out → StatusSent w out (step w (command_frame frame low out))

-- ---- a list of calls, with any number of them wherever they run

-- a call, or 13 with its frame, chip select and its buffer
pub data Entry : Type 0 where
  call : Call → Entry
  send_status : List ℕ → Bool → List ℕ → Entry

-- the same card and memory, but for the status bits that are kept
pub record SameButStatus (a b : World) : Type 0 where
  pub core : with_kept a.card.core no_bits ≡ with_kept b.card.core no_bits
  pub password : a.card.password ≡ b.card.password
  pub memory : a.memory ≡ b.memory

-- the buffer of a take; responses show the status
abbrev pub block_of : Call → List ℕ → List ℕ
block_of (take_block before) out = out
block_of (power_up s p) out = []
block_of (command_frame frame low before) out = []
block_of (block_in s) out = []
block_of busy_over out = []

-- a call in the runs with and without them: the same answer or number, block, card and memory
pub record AlikeButStatus (a b : World) (c : Call) : Type 0 where
  pub answer : (step a c).answer ≡ (step b c).answer
  pub block : block_of c (step a c).out ≡ block_of c (step b c).out
  pub world : SameButStatus (next a c) (next b c)

-- a runs through the list with the inserted ones, each of which runs as SEND_STATUS where it stands; b through the calls alone
abbrev pub AgreeButStatus : World → World → List Entry → Type 0
AgreeButStatus a b [] = Unit {0}
AgreeButStatus a b (call c ∷ h) = AlikeButStatus a b c × AgreeButStatus (next a c) (next b c) h
AgreeButStatus a b (send_status frame low out ∷ h) =
    SendsStatus a frame out → SameButStatus (next a (command_frame frame low out)) b × AgreeButStatus (next a (command_frame frame low out)) b h

-- from any record: where it is unsound, calls are refused
abbrev pub SendStatusInserted : Type 0
SendStatusInserted = (w : World) (h : List Entry) → AgreeButStatus w w h
