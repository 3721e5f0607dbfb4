-- The round trips of a format, and the claim that every format has them.
use Rattle.std.specs.Prelude.{◌≡◌, true, List, ℕ, T, length}
use Rattle.crc.specs.Bits.{Bytes, bits_of}
use Rattle.codec.specs.Answer.{done}
use Rattle.codec.specs.Layout.{fits, blank, kept}
use Rattle.codec.specs.Format.{Format, sized, image, right, decode}

pub record RoundTrip (f : Format) : Type 0 where
  -- decoding after encoding gives the values back
  pub decode-encode : (vs : List ℕ) → fits f.slots vs ≡ true → decode f (image f vs) ≡ done vs
  -- what was decoded can be encoded, and gives the bytes back where the reserved bits are zero
  pub decoded-fits : (s vs : List ℕ) → decode f s ≡ done vs → fits f.slots vs ≡ true
  pub encode-decode : (s vs : List ℕ) → Bytes s → decode f s ≡ done vs → blank f.slots (bits_of s) ≡ true → image f vs ≡ s
  -- exactly the reserved bits are ignored
  pub ignores_reserved : (s t : List ℕ) → length t ≡ length s → right f s ≡ true → right f t ≡ true
      → kept f.slots (bits_of s) ≡ kept f.slots (bits_of t) → decode f s ≡ decode f t
  pub ignores_nothing_else : (s t vs : List ℕ) → decode f s ≡ done vs → decode f t ≡ done vs
      → kept f.slots (bits_of s) ≡ kept f.slots (bits_of t)

-- the slots and the check need only fill the bytes
abbrev pub FormatsRoundTrip : Type 0
FormatsRoundTrip = (f : Format) → T (sized f) → RoundTrip f
