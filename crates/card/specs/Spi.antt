-- SPI mode (02, order 5; 003's SPI chapter): responses as bytes, and what they clear; the tokens of blocks.
use Rattle.std.specs.Prelude.{Bool, true, false, cond, ◌||◌, List, [], ◌∷◌, ℕ, ◌+◌, ◌*◌, eqb}
use Rattle.crc.specs.Bits.{bits, bytes}
use Rattle.card.specs.declared.Kept.{Kept}
use Rattle.card.specs.declared.Core.{Core}
use Rattle.card.specs.declared.Open.{Open}
use Rattle.card.specs.declared.command.Command.{Command}
use Rattle.card.specs.declared.done.Response.{Response}
use Rattle.card.specs.declared.done.Response.TheVariants.{R1, R6, Cid, Csd, R3, R7}
use Rattle.card.specs.declared.done.Done.{Done}
use Rattle.card.specs.declared.done.Flag.TheVariants.{Clear}
use Rattle.card.specs.Record.{with_kept, with_app}
use Rattle.card.specs.State.{idle, number, writing_multiple}
use Rattle.card.specs.Status.{no_bits, join, at}
use Rattle.card.specs.Table.{row, sets_app}
use Rattle.card.specs.Frame.{spi_r1, Turn}

-- ---- the bits of R1, by the standard's names; bit 7 is 0

abbrev pub PARAMETER_ERROR : ℕ
PARAMETER_ERROR = 6

abbrev pub ADDRESS_ERROR : ℕ
ADDRESS_ERROR = 5

abbrev pub ERASE_SEQUENCE_ERROR : ℕ
ERASE_SEQUENCE_ERROR = 4

abbrev pub COM_CRC_ERROR : ℕ
COM_CRC_ERROR = 3

abbrev pub ILLEGAL_COMMAND : ℕ
ILLEGAL_COMMAND = 2

abbrev pub ERASE_RESET : ℕ
ERASE_RESET = 1

abbrev pub IN_IDLE_STATE : ℕ
IN_IDLE_STATE = 0

-- without COM_CRC_ERROR, which the line adds: status bits 31 or 29, 30, 28, 22 and 13, and whether the card is idle
unfoldable pub r1_byte : Kept → Bool → ℕ
r1_byte k isIdle =
    at PARAMETER_ERROR (k.out_of_range || k.block_len_error)
    + at ADDRESS_ERROR k.address_error
    + at ERASE_SEQUENCE_ERROR k.erase_seq_error
    + at ILLEGAL_COMMAND k.illegal_command
    + at ERASE_RESET k.erase_reset
    + at IN_IDLE_STATE isIdle

-- the second byte of R2: status bits 31, 27 and 26, 15 or 24, and 25
unfoldable pub r2_byte : Kept → Bool → ℕ
r2_byte k locked =
    at 7 k.out_of_range
    + at 6 k.erase_param
    + at 5 k.wp_violation
    + at 1 (k.wp_erase_skip || k.lock_unlock_failed)
    + at 0 locked

-- ---- a command that ran

abbrev pub in_idle : Core → Bool
in_idle c = eqb (number c.bus.state) idle

-- 13 and A13 are answered by R2
abbrev pub sends_r2 : Command → Bool
sends_r2 k = eqb (row k).index 13

-- the bytes behind R1: the second of R2, the OCR of R3, the four of R7; the register of 9 and 10 is the block that follows
unfoldable pub behind_r1 : Command → Kept → Bool → Response → List ℕ
behind_r1 k shown locked Response.Nothing = []
behind_r1 k shown locked R1 = cond (sends_r2 k) (r2_byte shown locked ∷ []) []
behind_r1 k shown locked R6 = []
behind_r1 k shown locked Cid = []
behind_r1 k shown locked Csd = []
behind_r1 k shown locked (R3 ocr) = bytes 4 (bits 32 ocr)
behind_r1 k shown locked (R7 voltage pattern) = 0 ∷ 0 ∷ voltage ∷ pattern ∷ []

-- what R1 does not carry: status bits 27, 26, 24 and 15
abbrev pub without_r1 : Kept → Kept
without_r1 k = record {
  out_of_range = false;
  address_error = false;
  block_len_error = false;
  erase_seq_error = false;
  erase_param = k.erase_param;
  wp_violation = k.wp_violation;
  lock_unlock_failed = k.lock_unlock_failed;
  illegal_command = false;
  wp_erase_skip = k.wp_erase_skip;
  erase_reset = false;
}

-- R2 carries every bit that is kept
unfoldable pub unread : Bool → Kept → Kept
unread r2 k = cond r2 no_bits (without_r1 k)

-- it shows the bits held before it and its own, and idle as the command leaves it
abbrev pub finish_spi : Kept → Command → Done → Turn
finish_spi held k d =
    let shown = join held d.core.kept in
    record {
      core = with_app (with_kept d.core (unread (sends_r2 k) d.core.kept)) (sets_app (row k).kind);
      flag = Clear;
      message = spi_r1 (r1_byte shown (in_idle d.core)) (behind_r1 k shown d.core.locked d.response);
      effect = d.effect;
      payload = [];
    }

-- ---- a frame that is damaged or not allowed: R1 with that error's bit and the idle bit alone

abbrev pub error_r1 : ℕ → Core → List ℕ
error_r1 bit c = (at bit true + at IN_IDLE_STATE (in_idle c)) ∷ []

-- ---- tokens

-- leads every block from the card, and those of 24 and 42
abbrev pub START_BLOCK : ℕ
START_BLOCK = 0xFE

-- leads each block of 25
abbrev pub START_MULTIPLE : ℕ
START_MULTIPLE = 0xFC

-- ends 25
abbrev pub STOP_TRAN : ℕ
STOP_TRAN = 0xFD

unfoldable pub start_token : Open → ℕ
start_token o = cond (writing_multiple o) START_MULTIPLE START_BLOCK

-- the data answers as bytes: bits 3..1 are 010 or 101, bit 0 is 1, and the top bits are 0
abbrev pub data_response : ℕ → ℕ
data_response answer = answer * 2 + 1
