-- The card status (01, "Frames"): the bits that are kept, by the standard's numbers, and the word that a response shows.
use Rattle.std.specs.Prelude.{Bool, false, ◌||◌, ℕ, ◌+◌, ◌*◌, ◌^◌, eqb}
use Rattle.crc.specs.Bits.{digit}
use Rattle.card.specs.declared.Kept.{Kept}
use Rattle.card.specs.State.{ready_for}

-- ---- bits

abbrev pub OUT_OF_RANGE : ℕ
OUT_OF_RANGE = 31

abbrev pub ADDRESS_ERROR : ℕ
ADDRESS_ERROR = 30

abbrev pub BLOCK_LEN_ERROR : ℕ
BLOCK_LEN_ERROR = 29

abbrev pub ERASE_SEQ_ERROR : ℕ
ERASE_SEQ_ERROR = 28

abbrev pub ERASE_PARAM : ℕ
ERASE_PARAM = 27

abbrev pub WP_VIOLATION : ℕ
WP_VIOLATION = 26

abbrev pub CARD_IS_LOCKED : ℕ
CARD_IS_LOCKED = 25

abbrev pub LOCK_UNLOCK_FAILED : ℕ
LOCK_UNLOCK_FAILED = 24

abbrev pub COM_CRC_ERROR : ℕ
COM_CRC_ERROR = 23

abbrev pub ILLEGAL_COMMAND : ℕ
ILLEGAL_COMMAND = 22

abbrev pub WP_ERASE_SKIP : ℕ
WP_ERASE_SKIP = 15

abbrev pub ERASE_RESET : ℕ
ERASE_RESET = 13

-- CURRENT_STATE has bits 12..9
abbrev pub CURRENT_STATE : ℕ
CURRENT_STATE = 9

abbrev pub READY_FOR_DATA : ℕ
READY_FOR_DATA = 8

abbrev pub APP_CMD : ℕ
APP_CMD = 5

-- the one bit of a number
abbrev pub only : ℕ → Kept
only n = record {
  out_of_range = eqb n OUT_OF_RANGE;
  address_error = eqb n ADDRESS_ERROR;
  block_len_error = eqb n BLOCK_LEN_ERROR;
  erase_seq_error = eqb n ERASE_SEQ_ERROR;
  erase_param = eqb n ERASE_PARAM;
  wp_violation = eqb n WP_VIOLATION;
  lock_unlock_failed = eqb n LOCK_UNLOCK_FAILED;
  illegal_command = eqb n ILLEGAL_COMMAND;
  wp_erase_skip = eqb n WP_ERASE_SKIP;
  erase_reset = eqb n ERASE_RESET;
}

abbrev pub no_bits : Kept
no_bits = record {
  out_of_range = false;
  address_error = false;
  block_len_error = false;
  erase_seq_error = false;
  erase_param = false;
  wp_violation = false;
  lock_unlock_failed = false;
  illegal_command = false;
  wp_erase_skip = false;
  erase_reset = false;
}

-- the bits of both
abbrev pub join : Kept → Kept → Kept
join a b = record {
  out_of_range = a.out_of_range || b.out_of_range;
  address_error = a.address_error || b.address_error;
  block_len_error = a.block_len_error || b.block_len_error;
  erase_seq_error = a.erase_seq_error || b.erase_seq_error;
  erase_param = a.erase_param || b.erase_param;
  wp_violation = a.wp_violation || b.wp_violation;
  lock_unlock_failed = a.lock_unlock_failed || b.lock_unlock_failed;
  illegal_command = a.illegal_command || b.illegal_command;
  wp_erase_skip = a.wp_erase_skip || b.wp_erase_skip;
  erase_reset = a.erase_reset || b.erase_reset;
}

-- bit 22 goes after every command that runs
abbrev pub without_illegal : Kept → Kept
without_illegal k = record {
  out_of_range = k.out_of_range;
  address_error = k.address_error;
  block_len_error = k.block_len_error;
  erase_seq_error = k.erase_seq_error;
  erase_param = k.erase_param;
  wp_violation = k.wp_violation;
  lock_unlock_failed = k.lock_unlock_failed;
  illegal_command = false;
  wp_erase_skip = k.wp_erase_skip;
  erase_reset = k.erase_reset;
}

-- ---- the word

-- a bit at its number
abbrev pub at : ℕ → Bool → ℕ
at n b = digit b * 2 ^ n

-- the status without COM_CRC_ERROR: kept bits, the lock, number of the state at reception, ready, and bit 5 for 55 and application commands
unfoldable pub status : Kept → Bool → ℕ → Bool → ℕ
status k locked state app =
    at OUT_OF_RANGE k.out_of_range
    + at ADDRESS_ERROR k.address_error
    + at BLOCK_LEN_ERROR k.block_len_error
    + at ERASE_SEQ_ERROR k.erase_seq_error
    + at ERASE_PARAM k.erase_param
    + at WP_VIOLATION k.wp_violation
    + at CARD_IS_LOCKED locked
    + at LOCK_UNLOCK_FAILED k.lock_unlock_failed
    + at ILLEGAL_COMMAND k.illegal_command
    + at WP_ERASE_SKIP k.wp_erase_skip
    + at ERASE_RESET k.erase_reset
    + state * 2 ^ CURRENT_STATE
    + at READY_FOR_DATA (ready_for state)
    + at APP_CMD app

-- the word on the wire
abbrev pub shown : Bool → ℕ → ℕ
shown crcError word = at COM_CRC_ERROR crcError + word
