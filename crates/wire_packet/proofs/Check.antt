-- A packet's check: sixteen bits, two bytes, one number.
use mathlib.Core.Path.{◌≡◌, sym, ap, ap₂, ◌∙◌}
use mathlib.Core.Bool.{Bool, true}
use mathlib.Core.List.{List, ◌++◌}
use Prim.Native.Nat.{ℕ, ◌-◌, ◌%◌, ◌^◌, ◌≤◌, ◌<◌}
use native.Mathlib.Nat.{mod-eq_of_lt}
use native.Mathlib.Omega.{arith}
use lib.Dec.{eqb}
use lib.ListN.{length, take, drop, length-drop}
use Rattle.crc.specs.Bits.{bits, number, bits_of, bytes}
use Rattle.crc.specs.Crc.{crc, poly16, crc16_of}
use Rattle.crc.specs.Detection.{same}
use Rattle.crc.proofs.Bits.{length-bits, length-bits_of, number_lt}
use Rattle.crc.proofs.Register.{length-crc}
use Rattle.codec.proofs.Bits.{bits_of_lem, bits_of-cut, same_true, same_bits}
use Rattle.wire_packet.specs.Packet.{CHECK, payload_of, packet_right}

pub length-poly16 : length poly16 ≡ 16
unfolding poly16
length-poly16 = length-bits 16 4129

pub length-check : (m : List Bool) → length (crc poly16 m) ≡ 16
length-check m = length-crc poly16 (omega (arith, length-poly16)) m ∙ length-poly16

-- the check of a message, as the number that `crc16` gives and `put` writes
pub bytes-check : (m : List Bool) → bytes CHECK (bits 16 (number (crc poly16 m))) ≡ bytes CHECK (crc poly16 m)
bytes-check m = ap (bytes CHECK) (bits_of_lem 16 (crc poly16 m) (length-check m))

number_16 : (xs : List Bool) → length xs ≡ 16 → number xs < 2 ^ 16
number_16 xs h = rw h at (number_lt xs)

same_number : (xs ys : List Bool) → length xs ≡ 16 → length ys ≡ 16 → same xs ys ≡ eqb (number xs) (number ys)
same_number xs ys hx hy =
    ap₂ same (sym (bits_of_lem 16 xs hx)) (sym (bits_of_lem 16 ys hy))
    ∙ same_bits 16 (number xs) (number ys) (number_16 xs hx) (number_16 ys hy)

module _ (p : List ℕ) (h : CHECK ≤ length p) where
  length_last : length (bits_of (drop (length p - CHECK) p)) ≡ 16
  length_last = length-bits_of (drop (length p - CHECK) p) ∙ omega (arith, length-drop (length p - CHECK) p)

  -- the code's test: the numbers of the last two bytes and of the check
  pub right-number : (read check : ℕ) → read ≡ number (bits_of (drop (length p - CHECK) p)) % 2 ^ 32
      → check ≡ crc16_of (take (length p - CHECK) p) → packet_right p ≡ eqb read check
  unfolding packet_right payload_of crc16_of
  right-number read check hr hc =
      let n = length p - CHECK in
      let last : List Bool = bits_of (drop n p) in
      same_number last (crc poly16 (bits_of (take n p))) length_last (length-check (bits_of (take n p)))
      ∙ ap₂ eqb
      (sym (mod-eq_of_lt (omega (arith, number_16 last length_last))) ∙ sym hr)
      (sym hc)

  pub right-bits : packet_right p ≡ true → bits_of p ≡ bits_of (payload_of p) ++ crc poly16 (bits_of (payload_of p))
  unfolding packet_right payload_of
  right-bits e =
      let n = length p - CHECK in
      bits_of-cut n p (omega arith) ∙ ap (λ (x : List Bool). bits_of (take n p) ++ x) (same_true (bits_of (drop n p)) (crc poly16 (bits_of (take n p))) e)

-- a right packet has room for its check
pub right-long : (p : List ℕ) → packet_right p ≡ true → CHECK ≤ length p
unfolding packet_right
right-long p e =
    let n = length p - CHECK in
    let l : length (bits_of (drop n p)) ≡ 16 =
    ap length (same_true (bits_of (drop n p)) (crc poly16 (bits_of (payload_of p))) e) ∙ length-check (bits_of (payload_of p)) in
    omega (arith, length-bits_of (drop n p), length-drop n p)
