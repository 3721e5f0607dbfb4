-- A line collected byte by byte: a buffer keeps the first bytes, as many as it has room for.
use Rattle.std.specs.Prelude.{cond, List, [], ◌∷◌, ℕ, ◌+◌, ltb, length, take, set}

-- the buffer, and how many of its bytes are the line's
pub record Collected : Type 0 where
  pub buffer : List ℕ
  pub count : ℕ

abbrev pub collected : List ℕ → ℕ → Collected
collected buffer count = record { buffer = buffer; count = count }

-- one more byte goes behind the others; where the buffer is full nothing changes
unfoldable pub keep_byte : Collected → ℕ → Collected
keep_byte c byte = cond (ltb c.count (length c.buffer)) (collected (set c.buffer c.count byte) (c.count + 1)) c

unfoldable pub keep_all : Collected → List ℕ → Collected
keep_all c [] = c
keep_all c (b ∷ s) = keep_all (keep_byte c b) s

-- the bytes that were kept
abbrev pub kept : Collected → List ℕ
kept c = take c.count c.buffer
