-- The error-detection law, once over the polynomial, and for the two polynomials of the wire.
-- Assumes nothing.
use mathlib.Core.Path.{◌≡◌, refl, sym, ap, ◌∙◌}
use mathlib.Core.Bool.{Bool, true, true≢false, xor, ◌&&◌, ◌||◌}
use mathlib.Core.List.{List, [], ◌∷◌, ◌++◌}
use mathlib.Core.Logic.{◌⊎◌, inl, inr}
use Prim.Native.Nat.{ℕ, zero, suc, ◌≤◌}
use native.Mathlib.Omega.{arith}
use lib.Dec.{T, leb, leb→le}
use lib.ListN.{length, length-append, length-replicate}
use mir.Facts.{and_yes, or_yes}
use Rattle.crc.specs.Bits.{bits}
use Rattle.crc.specs.Crc.{◌⊕◌, shift, crc, clear, poly7, poly16}
use Rattle.crc.specs.Altered.{count, Reach, scattered, neighbours, Altered}
use Rattle.crc.specs.Detection.{Right, same, unit, odd, top, apart, suits, Detects}
use Rattle.crc.specs.Claims.{SuitsDetects, Poly7Detects, Poly16Detects}
use Rattle.crc.proofs.Xor.{xor_self, xor-zeros, xor_cancel, length-xor}
use Rattle.crc.proofs.Register.{turns-zeros, run-turns, crc_append, length-clear, length-crc, crc-xor}
use Rattle.crc.proofs.Clear.{unit-wide, run-clear, within-clear, burst_clear, pair-clear, apart-turns}
use Rattle.crc.proofs.Count.{pair, one_set, two_set}
use Rattle.crc.proofs.Parity.{oddℕ, odd-zeros, odd-count, odd-crc}

-- a message with its check behind it leaves the register clear
pub zero_right : (p m : List Bool) → 1 ≤ length p → crc p (m ++ crc p m) ≡ clear p
zero_right p m wide =
    let c : List Bool = crc p m in
    let w : length c ≡ length p = length-crc p wide m in
    cc (crc_append p m c, run-turns p c c w (omega arith), xor_self c, turns-zeros p (length c) (length c))

-- bits behind a message that leave the register clear are its check
pub right_zero : (p m c : List Bool) → T (unit p) → length c ≡ length p → crc p (m ++ c) ≡ clear p → c ≡ crc p m
right_zero p m c u h e =
    let r : List Bool = crc p m in
    let w : length r ≡ length p = length-crc p (unit-wide p u) m in
    let z : r ⊕ c ≡ clear p = run-clear p u r c w (omega arith) (sym (crc_append p m c) ∙ e) in
    sym (xor_cancel r c (omega arith) (cc))

module _ (p : List Bool) (n few : ℕ) (s : T (suits p n few)) where
  computed : T (unit p) × T (apart p n (shift p (top p))) × T (leb few 2 || (leb few 3 && odd p))
  unfolding suits
  computed =
      let (u, t) = and_yes (unit p) _ s in
      let (a, o) = and_yes (apart p n (shift p (top p))) _ t in
      (u, a, o)

  -- three bits are within reach only of a polynomial that x+1 divides, and four of none
  three : 3 ≤ few → (few ≤ 3) × T (odd p)
  three h = go (or_yes (leb few 2) (leb few 3 && odd p) computed.2)
    where
      go : T (leb few 2) ⊎ T (leb few 3 && odd p) → (few ≤ 3) × T (odd p)
      go (inl t) = absurd (omega (arith, leb→le few 2 t))
      go (inr t) = let (l, o) = and_yes (leb few 3) (odd p) t in (leb→le few 3 l, o)

  one_seen : (e : List Bool) → count e ≡ 1 → crc p e ≡ clear p → ⊥
  one_seen e h c =
      let (u, t, o) = computed in
      let (a, b, q) = one_set e h in
      omega (arith, burst_clear p u e (record { before = a; window = true ∷ []; after = b; short = unit-wide p u; outside = q }) c)

  -- two places of n + 1 are at most n apart
  two_seen : (e : List Bool) → length e ≤ suc n → count e ≡ 2 → crc p e ≡ clear p → ⊥
  two_seen e l h c =
      let (u, t, o) = computed in
      let (a, d, b, q) = two_set e h in
      apart-turns p n (shift p (top p)) t d (omega (arith, simp (length-append, length-replicate) at (ap length q)))
      (pair-clear p u d (within-clear p u a (pair d) b (ap (crc p) (sym q) ∙ c)))

  three-seen : T (odd p) → (e : List Bool) → count e ≡ 3 → crc p e ≡ clear p → ⊥
  unfolding oddℕ
  three-seen o e h c = true≢false (sym (odd-count e ∙ ap oddℕ h) ∙ sym (odd-crc p o e) ∙ ap odd c ∙ odd-zeros (length p))

  -- no damage within reach leaves the register clear
  pub seen : (e : List Bool) → length e ≤ suc n → 1 ≤ count e → Reach few (length p) e → crc p e ≡ clear p → ⊥
  seen e l h (scattered k) c = go (count e) refl
    where
      go : (m : ℕ) → count e ≡ m → ⊥
      go zero q = omega arith
      go (suc zero) q = one_seen e q c
      go (suc (suc zero)) q = two_seen e l q c
      go (suc (suc (suc zero))) q = three-seen (three (omega arith)).1 e q c
      go (suc (suc (suc (suc m)))) q = omega (arith, (three (omega arith)).0)
  seen e l h (neighbours b) c = omega (arith, burst_clear p computed.0 e b c)

  -- two words that both leave the register clear do not differ by damage within reach
  pub apart_words : (f g : List Bool) → length f ≤ suc n → Altered few (length p) f g → crc p f ≡ clear p → crc p g ≡ clear p → ⊥
  apart_words f g l a cf cg =
      let linear : crc p (f ⊕ g) ≡ crc p f ⊕ crc p g = crc-xor p (unit-wide p computed.0) f g (sym a.same_length) in
      let w : length g ≤ length f = omega arith in
      let c : crc p (f ⊕ g) ≡ clear p = cc (xor-zeros (clear p) (length p) (omega (arith, length-clear p))) in
      seen (f ⊕ g) (omega (arith, length-xor f g w)) a.differs a.reach c

  found : Detects p (suc n) few
  found f g l rf a rg = apart_words f g l a (clears f rf) (clears g rg)
    where
      clears : (f : List Bool) → Right p f → crc p f ≡ clear p
      clears f r = ap (crc p) r.checked ∙ zero_right p r.message (unit-wide p computed.0)

pub suits_detects : SuitsDetects
suits_detects = found

pub poly7_detects : Poly7Detects
unfolding suits unit apart same top shift ◌⊕◌ odd poly7 bits xor
poly7_detects = suits_detects poly7 46 2 tt

pub poly16_detects : Poly16Detects
unfolding suits unit apart same top shift ◌⊕◌ odd poly16 bits xor
poly16_detects = suits_detects poly16 4111 3 tt
