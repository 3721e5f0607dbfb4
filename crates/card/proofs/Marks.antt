-- Protection marks: 28 and 29 change the mark of their own group alone, and that group is one of the card.
use mathlib.Core.Path.{◌≡◌, refl, sym, ap, ap₂, ◌∙◌}
use mathlib.Core.Bool.{Bool, true, false, not, ◌||◌}
use mathlib.Core.List.{List}
use Prim.Native.Nat.{ℕ, zero, suc, ◌+◌, ◌-◌, ◌*◌, ◌/◌, ◌%◌, ◌^◌, ◌<◌}
use native.Mathlib.Nat.{zero-div, add-mul, mod-lt, div-add-mod'}
use native.Mathlib.Omega.{arith}
use borrow.Author.Tests.{eqb-true, eqb-false, ltb-true, ltb-false}
use lib.Dec.{eqb, ltb}
use lib.ListN.{length, get_or, drop, set, replicate}
use lib.Pow.{pow_pos, shr-shr, high, split}
use lib.Seq.{get_or-set_same, get_or-set_other, set_out, drop-set-lt, drop-nil}
use Rattle.crc.specs.Bits.{bit, digit}
use Rattle.crc.proofs.Bits.{digit-bit, digit_lt}
use Rattle.card.specs.declared.Settings.{Settings}
use Rattle.card.specs.Settings.{capacity, groups}
use Rattle.card.specs.Protect.{group_of, put_bit, mark}
use Rattle.card.specs.Soundness.{any_byte, marked_from}
use Rattle.card.proofs.Facts.{Marked}

-- ---- a byte with one bit put

-- the byte around bit k: what stands above, the bit, what stands below
around : (k above d below : ℕ) → ℕ
around k above d below = (above * 2 + d) * 2 ^ k + below

module _ (k n : ℕ) where
  below_lt : n % 2 ^ k < 2 ^ k
  below_lt = mod-lt n (pow_pos k)

  apart : n ≡ around k (n / 2 ^ k / 2) (digit (bit n k)) (n % 2 ^ k)
  unfolding around
  apart =
      let q : n / 2 ^ k / 2 * 2 + n / 2 ^ k % 2 ≡ n / 2 ^ k = div-add-mod' (n / 2 ^ k) 2 in
      rw (digit-bit n k, q) (sym (split n k))

  put_bit-around : (v : Bool) → put_bit v k n ≡ around k (n / 2 ^ k / 2) (digit v) (n % 2 ^ k)
  unfolding around
  put_bit-around v =
      let P = 2 ^ k in
      let d = digit (bit n k) in
      let hi = n / P / 2 * 2 in
      let e : n ≡ (hi + d) * P + n % P = apart in
      omega (arith, add-mul hi d P, add-mul hi (digit v) P)

-- what stands above bit k does not look at it
higher : (k j above d below : ℕ) → k < j → d < 2 → below < 2 ^ k → around k above d below / 2 ^ j ≡ above / 2 ^ (j - suc k)
unfolding around
higher k j above d below h hd hb =
    let x = (above * 2 + d) * 2 ^ k + below in
    let m = j - suc k in
    let e : j ≡ k + (1 + m) = omega arith in
    let half : (above * 2 + d) / 2 ≡ above = omega arith in
    ap (λ (i : ℕ). x / 2 ^ i) e
    ∙ sym (shr-shr x k (1 + m))
    ∙ ap (λ (y : ℕ). y / 2 ^ (1 + m)) (high (above * 2 + d) k hb)
    ∙ sym (shr-shr (above * 2 + d) 1 m)
    ∙ ap (λ (y : ℕ). y / 2 ^ m) half

put_bit-above : (v : Bool) (k j n : ℕ) → k < j → put_bit v k n / 2 ^ j ≡ n / 2 ^ j
put_bit-above v k j n h =
    ap (λ (x : ℕ). x / 2 ^ j) (put_bit-around k n v)
    ∙ higher k j (n / 2 ^ k / 2) (digit v) (n % 2 ^ k) h (digit_lt v) (below_lt k n)
    ∙ sym (higher k j (n / 2 ^ k / 2) (digit (bit n k)) (n % 2 ^ k) h (digit_lt (bit n k)) (below_lt k n))
    ∙ ap (λ (x : ℕ). x / 2 ^ j) (sym (apart k n))

-- ---- the marks of the groups behind

-- the byte of a group behind, from its place up
byte_above : (v : Bool) (marks : List ℕ) (g h : ℕ) → g < h
    → get_or (mark v marks g) (h / 8) 0 / 2 ^ (h % 8) ≡ get_or marks (h / 8) 0 / 2 ^ (h % 8)
unfolding mark
byte_above v marks g h lt = go (eqb (h / 8) (g / 8)) refl (ltb (g / 8) (length marks)) refl
  where
    byte : ℕ
    byte = get_or marks (g / 8) 0

    put : ℕ
    put = put_bit v (g % 8) byte

    go : (b : Bool) → eqb (h / 8) (g / 8) ≡ b → (l : Bool) → ltb (g / 8) (length marks) ≡ l
        → get_or (set marks (g / 8) put) (h / 8) 0 / 2 ^ (h % 8) ≡ get_or marks (h / 8) 0 / 2 ^ (h % 8)
    go false t l u =
        ap (λ (x : ℕ). x / 2 ^ (h % 8)) (get_or-set_other marks (g / 8) (h / 8) put 0 (eqb-false (h / 8) (g / 8) t))
    go true t false u =
        ap (λ (m : List ℕ). get_or m (h / 8) 0 / 2 ^ (h % 8)) (set_out marks (g / 8) put (ltb-false (g / 8) (length marks) u))
    go true t true u =
        let q : h / 8 ≡ g / 8 = eqb-true (h / 8) (g / 8) t in
        let other : g % 8 < h % 8 = omega arith in
        rw q (ap (λ (x : ℕ). x / 2 ^ (h % 8)) (get_or-set_same marks (g / 8) put 0 (ltb-true (g / 8) (length marks) u))
        ∙ put_bit-above v (g % 8) (h % 8) byte other)

marked_from-other : (v : Bool) (marks : List ℕ) (g h : ℕ) → g < h → marked_from (mark v marks g) h ≡ marked_from marks h
unfolding marked_from mark
marked_from-other v marks g h lt =
    let near : g / 8 < h / 8 + 1 = omega arith in
    ap₂ (λ (x : ℕ) (l : List ℕ). not (eqb x 0) || any_byte l)
    (byte_above v marks g h lt)
    (drop-set-lt (h / 8 + 1) marks (g / 8) (put_bit v (g % 8) (get_or marks (g / 8) 0)) near)

pub group_in : (s : Settings) (a : ℕ) → a < capacity s → group_of a < groups s
group_in s a h = omega arith

pub mark-marked : (s : Settings) (v : Bool) (marks : List ℕ) (g : ℕ) → g < groups s → Marked s marks → Marked s (mark v marks g)
mark-marked s v marks g h e = marked_from-other v marks g (groups s) h ∙ e

-- ---- the marks of a power-up

get_d_zeros : (n i : ℕ) → ◌≡◌ {A = ℕ} (get_or (replicate n 0) i 0) 0
get_d_zeros zero i = refl
get_d_zeros (suc n) zero = refl
get_d_zeros (suc n) (suc i) = get_d_zeros n i

no_byte : (n i : ℕ) → any_byte (drop i (replicate n 0)) ≡ false
unfolding any_byte
no_byte zero i = ap any_byte (drop-nil i)
no_byte (suc n) zero = no_byte n zero
no_byte (suc n) (suc i) = no_byte n i

pub none-marked : (n h : ℕ) → marked_from (replicate n 0) h ≡ false
unfolding marked_from
none-marked n h = rw (get_d_zeros n (h / 8), zero-div (2 ^ (h % 8)), no_byte n (h / 8 + 1))
