-- What holds of every line, and of every buffer that a line is collected in.
use Rattle.std.specs.Prelude.{◌≡◌, List, [], ◌∷◌, ◌++◌, ℕ, ◌+◌, ◌≤◌, length, take}
use Rattle.crc.specs.Bits.{Bytes}
use Rattle.replay_read.specs.Hex.{hex}
use Rattle.replay_read.specs.Read.{cmd, blk, CMD, BLK, LONGEST, read_line, held, request_of}
use Rattle.replay_read.specs.Keep.{Collected, collected, keep_byte, keep_all, kept}

pub record ReadLaws : Type 0 where
  -- hex that was written is read back
  pub frame : (f : List ℕ) → Bytes f → length f ≡ 6 → read_line (CMD ++ hex f) ≡ cmd f
  pub block : (p : List ℕ) → Bytes p → length p ≡ 514 → read_line (BLK ++ hex p) ≡ blk p
  -- of a line that is too long, one byte more than the longest is enough to tell
  pub front : (s : List ℕ) → read_line s ≡ read_line (take (LONGEST + 1) s)
  -- what the code holds is the request
  pub whole : (s : List ℕ) → request_of (held (read_line s)) ≡ read_line s

pub record KeepLaws : Type 0 where
  -- as many bytes are kept as there is room for
  pub one : (buffer : List ℕ) (count byte : ℕ) → count ≤ length buffer
      → kept (keep_byte (collected buffer count) byte) ≡ take (length buffer) (take count buffer ++ (byte ∷ []))
  pub all : (buffer s : List ℕ) → kept (keep_all (collected buffer 0) s) ≡ take (length buffer) s
  -- so a line is read as it was, from a buffer of one byte more than the longest
  pub read : (buffer s : List ℕ) → length buffer ≡ LONGEST + 1 → read_line (kept (keep_all (collected buffer 0) s)) ≡ read_line s
  -- and the buffer stays as long as it was
  pub size : (c : Collected) (s : List ℕ) → length (keep_all c s).buffer ≡ length c.buffer
