-- The table of a polynomial: what its test gives at each place, and eight turns at once by it.
-- Assumes nothing.
use mathlib.Core.Path.{◌≡◌, sym, ap, ap₂, ◌∙◌}
use mathlib.Core.Bool.{Bool, false}
use mathlib.Core.List.{List, [], ◌∷◌, ◌++◌}
use Prim.Native.Nat.{ℕ, zero, suc, ◌+◌, ◌-◌, ◌*◌, ◌/◌, ◌%◌, ◌^◌, ◌<◌}
use native.Mathlib.Nat.{add-zero, add_comm}
use native.Mathlib.Omega.{arith}
use lib.Dec.{T, eqb, eqb→eq}
use lib.ListN.{length, get_or, replicate, length-append, length-replicate}
use lib.Pow.{shr_lt}
use mir.Facts.{and_yes}
use Rattle.crc.specs.Bits.{bits, number}
use Rattle.crc.specs.Crc.{◌⊕◌, turns}
use Rattle.crc.specs.Table.{entry, in_place, Tabulates}
use Rattle.crc.specs.Claims.{InPlaceTabulates, TurnsByTable}
use Rattle.crc.proofs.Bits.{length-bits, bits-number, bits-split}
use Rattle.crc.proofs.Xor.{xor_comm, xor-zeros, append_xor_append}
use Rattle.crc.proofs.Register.{length-turns, turns-xor, turns_up}
use Rattle.crc.proofs.Words.{bits-xor, moved}

-- from the place b on
from : (p : List Bool) (b : ℕ) (t : List ℕ) → T (in_place p b t) → (k : ℕ) → k < length t → get_or t k 0 ≡ entry p (b + k)
unfolding in_place
from p b [] e k h = absurd (omega arith)
from p b (x ∷ t) e zero h =
    eqb→eq x (entry p b) (and_yes (eqb x (entry p b)) (in_place p (suc b) t) e).0 ∙ ap (entry p) (sym (add-zero b))
from p b (x ∷ t) e (suc k) h =
    from p (suc b) t (and_yes (eqb x (entry p b)) (in_place p (suc b) t) e).1 k (omega arith) ∙ ap (entry p) (omega arith)

pub in_place_tabulates : InPlaceTabulates
unfolding Tabulates
in_place_tabulates p t l e b h = from p 0 t e b (omega arith) ∙ ap (entry p) (omega arith)

-- a byte with what is below it is the sum of each alone
apart-xor : (v k : ℕ) (low : List Bool) → length low ≡ v → (replicate 8 false ++ low) ⊕ (bits 8 k ++ replicate v false) ≡ bits 8 k ++ low
apart-xor v k low l =
    append_xor_append (replicate 8 false) (bits 8 k) low (replicate v false) (sym (length-bits 8 k))
    ∙ ap₂ (λ (x y : List Bool). x ++ y)
    (xor_comm (replicate 8 false) (bits 8 k) ∙ xor-zeros (bits 8 k) 8 (omega (arith, length-bits 8 k)))
    (xor-zeros low v (omega arith))

-- the bits of an entry
entry-bits : (p : List Bool) (v k : ℕ) → length p ≡ 8 + v → turns p 8 (bits 8 k ++ replicate v false) ≡ bits (8 + v) (entry p k)
unfolding entry
entry-bits p v k h =
    let r : List Bool = bits 8 k ++ replicate v false in
    let l : length r ≡ length p = simp (length-append, length-bits, length-replicate) (sym h) in
    let below : v ≡ length p - 8 = omega arith in
    sym (bits-number (turns p 8 r))
    ∙ ap₂ (λ (n m : ℕ). bits n (number (turns p 8 (bits 8 k ++ replicate m false)))) (length-turns p 8 r l ∙ h) below

-- eight turns of a byte with what is below it
turns-split : (p : List Bool) (v k : ℕ) (low : List Bool) → length p ≡ 8 + v → length low ≡ v
    → turns p 8 (bits 8 k ++ low) ≡ (low ++ replicate 8 false) ⊕ bits (8 + v) (entry p k)
turns-split p v k low h l =
    ap (turns p 8) (sym (apart-xor v k low l))
    ∙ turns-xor p 8 (replicate 8 false ++ low) (bits 8 k ++ replicate v false)
    (simp (length-append, length-replicate) (omega arith))
    (simp (length-append, length-bits, length-replicate) (omega arith))
    ∙ ap₂ ◌⊕◌ (turns_up p 8 low) (entry-bits p v k h)

pub turns_by_table : TurnsByTable
unfolding Tabulates
turns_by_table v p t h rule r l =
    let b : ℕ = r / 2 ^ v in
    bits-xor (8 + v) (r * 2 ^ 8 % 2 ^ (8 + v)) (get_or t b 0)
    ∙ ap₂ ◌⊕◌
    (ap (λ (n : ℕ). bits n (r * 2 ^ 8 % 2 ^ n)) (add_comm 8 v) ∙ moved v 8 r)
    (ap (bits (8 + v)) (rule b (shr_lt 8 v l)))
    ∙ sym (turns-split p v b (bits v r) h (length-bits v r))
    ∙ ap (turns p 8) (sym (bits-split 8 v r))
