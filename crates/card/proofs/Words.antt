-- The status words of the card: COM_CRC_ERROR, bit 23, is free in each, so that adding it carries nothing into the bits above.
use mathlib.Core.Path.{◌≡◌, sym, ap, ap₂, ◌∙◌}
use mathlib.Core.Bool.{Bool}
use mathlib.Core.List.{List, ◌∷◌, ◌++◌}
use Prim.Native.Nat.{ℕ, ◌+◌, ◌*◌, ◌/◌, ◌^◌, ◌<◌, ◌≤◌}
use native.Mathlib.Omega.{arith}
use lib.Arith.{digits_div}
use Rattle.crc.specs.Bits.{digit, bit, bits}
use Rattle.crc.proofs.Bits.{digit_lt, bits-low, bits-split}
use Rattle.card.specs.declared.Kept.{Kept}
use Rattle.card.specs.declared.State.{State}
use Rattle.card.specs.declared.State.TheVariants.{Idle, Ready, Ident, Stby, Tran, Data, Rcv, Prg, Dis, Ina}
use Rattle.card.specs.State.{number, ready_for}
use Rattle.card.specs.Status.{status, shown}

-- the bits above 23 are the word's
abbrev pub Free : ℕ → Type 0
Free word = (crc : Bool) → shown crc word / 2 ^ 24 ≡ word / 2 ^ 24

number_le : (s : State) → number s ≤ 9
number_le Idle = omega arith
number_le Ready = omega arith
number_le Ident = omega arith
number_le Stby = omega arith
number_le Tran = omega arith
number_le (Data s) = omega arith
number_le (Rcv s) = omega arith
number_le Prg = omega arith
number_le Dis = omega arith
number_le Ina = omega arith

free : (word high low : ℕ) → word ≡ high * 2 ^ 24 + low → low < 2 ^ 23 → Free word
free word high low e h crc =
    let top : shown crc word ≡ high * 2 ^ 24 + (digit crc * 2 ^ 23 + low) = omega arith in
    ap (λ (n : ℕ). n / 2 ^ 24) top
    ∙ digits_div high (omega (arith, digit_lt crc))
    ∙ sym (ap (λ (n : ℕ). n / 2 ^ 24) e ∙ digits_div high (omega arith))

pub status-free : (k : Kept) (locked : Bool) (s : State) (app : Bool) → Free (status k locked (number s) app)
unfolding status
status-free k locked s app =
    free (status k locked (number s) app)
    (digit k.out_of_range * 2 ^ 7
    + digit k.address_error * 2 ^ 6
    + digit k.block_len_error * 2 ^ 5
    + digit k.erase_seq_error * 2 ^ 4
    + digit k.erase_param * 2 ^ 3
    + digit k.wp_violation * 2 ^ 2
    + digit locked * 2
    + digit k.lock_unlock_failed)
    (digit k.illegal_command * 2 ^ 22
    + digit k.wp_erase_skip * 2 ^ 15
    + digit k.erase_reset * 2 ^ 13
    + number s * 2 ^ 9
    + digit (ready_for (number s)) * 2 ^ 8
    + digit app * 2 ^ 5)
    (omega arith)
    (omega
    (arith, digit_lt k.illegal_command, digit_lt k.wp_erase_skip, digit_lt k.erase_reset, number_le s, digit_lt (ready_for (number s)), digit_lt app))

-- a word with COM_CRC_ERROR is that bit and the word's others
pub bits-shown : (crc : Bool) (word : ℕ) → Free word
    → bits 32 (shown crc word) ≡ bits 8 (word / 2 ^ 24) ++ (bit (shown crc word) 23 ∷ bits 23 word)
unfolding bits
bits-shown crc word h =
    bits-split 8 24 (shown crc word)
    ∙ ap₂ (λ (x : ℕ) (r : List Bool). bits 8 x ++ (bit (shown crc word) 23 ∷ r)) (h crc) (bits-low 23 (digit crc) word)
