-- A word of marks, one bit longer in each turn.
use mathlib.Core.Path.{◌≡◌, refl, sym, ap, ap₂, ◌∙◌}
use mathlib.Core.Bool.{Bool, true, false, ◌&&◌}
use mathlib.Core.List.{List, [], ◌∷◌, ◌++◌, append-nil}
use Prim.Native.Nat.{ℕ, zero, suc, ◌+◌, ◌-◌, ◌*◌, ◌%◌, ◌^◌, ◌<◌, ◌≤◌}
use native.Mathlib.Nat.{sub-add_cancel}
use native.Mathlib.Omega.{arith}
use lib.Bits.{bit_or, or_shifted}
use mir.Val.{bool_byte as from_bool}
use lib.Dec.{ltb}
use lib.Pow.{mod-mod-pow}
use lib.Seq.{append_snoc}
use Rattle.crc.specs.Bits.{bits, digit}
use Rattle.crc.proofs.Bits.{bits_cong, bits-join, digit_lt}
use Rattle.codec.proofs.Masks.{shifted}
use Rattle.card.specs.Protect.{marked, mark_bits}

one_bit : (b : Bool) → bits 1 (digit b) ≡ b ∷ []
unfolding bits
one_bit true = refl
one_bit false = refl

appended : (j word : ℕ) (b : Bool) → j + 1 ≤ 32 → bits (j + 1) (word % 2 ^ 31 * 2 ^ 1 + digit b) ≡ bits j word ++ (b ∷ [])
appended j word b h =
    bits-join j 1 (word % 2 ^ 31) (digit b) (digit_lt b)
    ∙ ap₂ (λ (x y : List Bool). x ++ y) (bits_cong j (word % 2 ^ 31) word low) (one_bit b)
  where
    low : word % 2 ^ 31 % 2 ^ j ≡ word % 2 ^ j
    low = ap (λ (x : ℕ). word % 2 ^ x % 2 ^ j) (sym (sub-add_cancel {n = 31} {m = j} (omega arith))) ∙ mod-mod-pow word (31 - j) j

flag : (b : Bool) → from_bool b ≡ digit b
flag true = refl
flag false = refl

-- as the code has it
pub appended-bit : (j word bit : ℕ) (b : Bool) → j + 1 ≤ 32 → bit ≡ from_bool b → bits (j + 1) (bit_or (word * 2 ^ 1 % 2 ^ 32) bit) ≡ bits j word ++ (b ∷ [])
appended-bit j word bit b h e =
    ap (bits (j + 1)) (ap₂ bit_or (shifted word 31 1) (e ∙ flag b) ∙ or_shifted (word % 2 ^ 31) 1 (digit b) (digit_lt b))
    ∙ appended j word b h

pub word_more : (n : ℕ) (marks : List ℕ) (g k word next : ℕ) (b : Bool) (all : List Bool) → 0 < k → k ≤ 32
    → ((j : ℕ) → j + 1 ≤ 32 → bits (j + 1) next ≡ bits j word ++ (b ∷ []))
    → b ≡ (ltb (g + (k - 1)) n && marked marks (g + (k - 1)))
    → bits (32 - k) word ++ mark_bits n marks g k ≡ all
    → bits (32 - (k - 1)) next ++ mark_bits n marks g (k - 1) ≡ all
unfolding mark_bits
word_more n marks g zero word next b all lo hi long e inv = absurd (omega arith)
word_more n marks g (suc k) word next b all lo hi long e inv =
    let less : suc k - 1 ≡ k = omega arith in
    let more : 32 - (suc k - 1) ≡ 32 - suc k + 1 = omega arith in
    let one : b ≡ (ltb (g + k) n && marked marks (g + k)) =
    e ∙ ap (λ (i : ℕ). ltb (g + i) n && marked marks (g + i)) less in
    ap₂ (λ (x y : List Bool). x ++ y) (ap (λ (i : ℕ). bits i next) more ∙ long (32 - suc k) (omega arith)) (ap (mark_bits n marks g) less)
    ∙ append_snoc (bits (32 - suc k) word) b (mark_bits n marks g k)
    ∙ ap (λ (x : Bool). bits (32 - suc k) word ++ (x ∷ mark_bits n marks g k)) one
    ∙ inv

pub word_all : (n : ℕ) (marks : List ℕ) (g k word : ℕ) (all : List Bool) → k ≤ 0 → bits (32 - k) word ++ mark_bits n marks g k ≡ all → bits 32 word ≡ all
unfolding mark_bits
word_all n marks g zero word all h inv = sym (append-nil (bits 32 word)) ∙ inv
word_all n marks g (suc k) word all h inv = absurd (omega arith)
