-- Demand 3 (01, "The histories of demand 3"; 02, order 5): one claim about a list of calls with damaged copies of frames inserted, in both
-- bus modes.
use Rattle.std.specs.Prelude.{◌≡◌, Bool, true, false, cond, List, [], ◌∷◌, ◌++◌, ℕ, ◌+◌, ◌*◌, ◌/◌, ◌%◌, ◌≤◌, eqb, length, get_or, set, drop}
use Rattle.std.proofs.Math.Option.{Option, none, some}
use Rattle.codec.specs.Answer.{Outcome, done, refused}
use Rattle.wire_frame.specs.Damage.{DamagedFrame}
use Rattle.wire_packet.specs.Damage.{DamagedBlock}
use Rattle.card.specs.declared.Settings.{Settings}
use Rattle.card.specs.declared.Password.{Password}
use Rattle.card.specs.declared.State.TheVariants.{Idle}
use Rattle.card.specs.Settings.{capacity}
use Rattle.card.specs.Record.{with_state}
use Rattle.card.specs.State.{in_spi, checking}
use Rattle.card.specs.Soundness.{unsound, bad_password}
use Rattle.card.specs.Spi.{COM_CRC_ERROR, error_r1}
use Rattle.card.specs.Data.{ACCEPTED}
use Rattle.card.specs.Step.{Call, power_up, command_frame, block_in, take_block, busy_over, World, Reply, silent, sent, answered, over, Result, ROOM, packet_size, token_size, permitted, step, next, start}

-- ---- what every call keeps

-- a sound record, and memory of block count × 512 bytes
pub record Sound (w : World) : Type 0 where
  pub core : unsound w.card.core ≡ false
  pub password : bad_password w.card.core.locked w.card.password.length ≡ false
  pub memory : length w.memory ≡ capacity w.card.core.settings

abbrev pub KeepsSound : Type 0
KeepsSound = (w : World) (c : Call) → Sound w → Sound (next w c)

-- a history starts with the record of its power-up and any memory of block count × 512 bytes
pub record Start (w : World) : Type 0 where
  pub settings : Settings
  pub password : Password
  pub allowed : permitted settings password ≡ true
  pub powered : w.card ≡ start settings password
  pub memory : length w.memory ≡ capacity settings

-- the record of a power-up is sound
abbrev pub StartsSound : Type 0
StartsSound = (w : World) → Start w → Sound w

-- ---- demand 3

-- an entry: a call, or a damaged copy of a well-formed frame, with chip select either way and an output buffer that is large enough
pub data Entry : Type 0 where
  call : Call → Entry
  copy : (frame : List ℕ) (low : Bool) (out : List ℕ) → DamagedFrame frame → ROOM ≤ length out → Entry

-- SPI mode
abbrev pub spi_of : World → Bool
spi_of w = in_spi w.card.core.bus.mode

-- the same card and memory, but for COM_CRC_ERROR where SD mode keeps it; in SPI mode the whole record
pub record SameWorld (a b : World) : Type 0 where
  pub core : a.card.core ≡ b.card.core
  pub password : a.card.password ≡ b.card.password
  pub memory : a.memory ≡ b.memory
  pub line : spi_of a ≡ true → a.card.line ≡ b.card.line

-- the first byte tells the kinds of six bytes apart: 3Fh is R3, 8 is R7, 3 is R6, any other is R1 with its index
abbrev pub R3_FIRST : ℕ
R3_FIRST = 63

abbrev pub R6_FIRST : ℕ
R6_FIRST = 3

abbrev pub R7_FIRST : ℕ
R7_FIRST = 8

-- which byte has COM_CRC_ERROR at its top: byte 3 of R6, byte 2 of R1, none of R3 and R7
unfoldable pub carrier : ℕ → Option ℕ
carrier first = cond (eqb first R3_FIRST) none (cond (eqb first R7_FIRST) none (some (cond (eqb first R6_FIRST) 3 2)))

-- without that bit, and without the check, but not without the end bit
abbrev pub masked : ℕ → List ℕ → List ℕ
masked n out = set (set out n (get_or out n 0 % 128)) 5 (get_or out 5 0 % 2)

abbrev pub unless_none : Option ℕ → List ℕ → List ℕ
unless_none none out = out
unless_none (some n) out = masked n out

-- the R1 of the 0 that chooses SPI mode without its bit 3
abbrev pub masked_r1 : List ℕ → List ℕ
masked_r1 out = set out 0 (get_or out 0 0 / 16 * 16 + get_or out 0 0 % 8)

-- of a response of SD mode with COM_CRC_ERROR among its fields, what is compared: as a caller sees it, by its answer and the buffer
unfoldable pub hidden_sd : ℕ → List ℕ → List ℕ
hidden_sd n out = cond (eqb n 6) (unless_none (carrier (get_or out 0 0)) out) (cond (eqb n 1) (masked_r1 out) out)

-- what is compared of a call's buffer; of one that finds the card in SPI mode all of it
unfoldable pub hidden : Bool → Call → Outcome Reply → List ℕ → List ℕ
hidden spi (command_frame frame low before) (done (sent n)) out = cond spi out (hidden_sd n out)
hidden spi (command_frame frame low before) (done silent) out = out
hidden spi (command_frame frame low before) (done (answered n)) out = out
hidden spi (command_frame frame low before) (done over) out = out
hidden spi (command_frame frame low before) (refused k) out = out
hidden spi (power_up s p) a out = out
hidden spi (block_in s) a out = out
hidden spi (take_block before) a out = out
hidden spi busy_over a out = out

-- a damaged data block is never stored, and 42's not acted on: memory and password stay, and of the record all but the state, so
-- marks, lock and every kept bit; and the answer is not 010
pub record NotStored (w : World) (c : Call) : Type 0 where
  pub memory : (next w c).memory ≡ w.memory
  pub password : (next w c).card.password ≡ w.card.password
  pub core : with_state (next w c).card.core Idle ≡ with_state w.card.core Idle
  pub answer : (step w c).answer ≡ done (answered ACCEPTED) → ⊥

-- checks are judged: in SD mode, or with checks on
abbrev pub Checks : World → Type 0
Checks w = checking w.card.core.bus.mode ≡ true

-- damaged behind its start token, which SD mode does not have
abbrev pub Unharmed : World → Call → Type 0
Unharmed w (block_in s) =
    Checks w → DamagedBlock (packet_size w.card.core) (drop (token_size w.card.core.bus.mode) s) → NotStored w (block_in s)
Unharmed w (power_up s p) = Unit {0}
Unharmed w (command_frame frame low out) = Unit {0}
Unharmed w (take_block out) = Unit {0}
Unharmed w busy_over = Unit {0}

-- a call in the runs with and without the copies
pub record Alike (a b : World) (c : Call) : Type 0 where
  pub answer : (step a c).answer ≡ (step b c).answer
  pub out : hidden (spi_of a) c (step a c).answer (step a c).out ≡ hidden (spi_of b) c (step b c).answer (step b c).out
  pub world : SameWorld (next a c) (next b c)
  pub with_copies : Unharmed a c
  pub without : Unharmed b c

-- what a copy gets: silence, and its buffer is kept; or in SPI mode R1 with COM_CRC_ERROR and the idle bit
pub data Ignored (w : World) (buffer : List ℕ) (r : Result) : Type 0 where
  silence : r.answer ≡ done silent → r.out ≡ buffer → Ignored w buffer r
  error : spi_of w ≡ true → r.answer ≡ done (sent 1) → r.out ≡ error_r1 COM_CRC_ERROR w.card.core ++ drop 1 buffer → Ignored w buffer r

-- and the same card and memory as in the run without it
pub record Unheard (a b : World) (frame : List ℕ) (low : Bool) (buffer : List ℕ) : Type 0 where
  pub ignored : Ignored a buffer (step a (command_frame frame low buffer))
  pub world : SameWorld (next a (command_frame frame low buffer)) b

-- a runs through the history with its copies, each of which comes where checks are judged, b through the calls alone
abbrev pub Agree : World → World → List Entry → Type 0
Agree a b [] = Unit {0}
Agree a b (call c ∷ h) = Alike a b c × Agree (next a c) (next b c) h
Agree a b (copy frame low out damaged room ∷ h) = Checks a → Unheard a b frame low out × Agree (next a (command_frame frame low out)) b h

abbrev pub Demand3 : Type 0
Demand3 = (w : World) → Start w → (h : List Entry) → Agree w w h
