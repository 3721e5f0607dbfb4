-- The search finds 01's size pair: one that gives the count, with the smallest multiplier, or none where no pair gives it.
use mathlib.Core.Path.{◌≡◌, refl, sym, ap, ◌∙◌}
use mathlib.Core.Bool.{Bool, true, false, cond, ◌&&◌, false≢true, and-eq-true_iff}
use Prim.Native.Nat.{ℕ, zero, suc, ◌+◌, ◌-◌, ◌*◌, ◌/◌, ◌%◌, ◌^◌, ◌≤◌, ◌<◌}
use native.Mathlib.Nat.{div-add-mod', mul-mod_left}
use native.Mathlib.Omega.{arith}
use borrow.Author.Tests.{eqb-true, eqb-false, eq-eqb, ltb-true, lt-ltb, leb-true, le-leb}
use Rattle.std.proofs.Common.{Option, Some, None}
use lib.Dec.{eqb, ltb, leb}
use lib.Pow.{pow_pos, shl-shr}
use Rattle.reg_size.specs.declared.SizePair.{SizePair}
use Rattle.reg_size.specs.Size.{Gives, IsPair, divides, pair_from, size_pair}
use Rattle.reg_size.specs.Claims.{SizePairRight}
use Rattle.reg_size.proofs.Search.{quotient_pos}

-- ---- one multiplier

divides-gives : (n mult : ℕ) → divides n mult ≡ true → mult ≤ 7 → Gives n (n / 2 ^ (mult + 2) - 1) mult
unfolding divides
divides-gives n mult h small =
    let u : ℕ = 2 ^ (mult + 2) in
    let (a, bc) = (and-eq-true_iff (eqb (n % u) 0) (ltb 0 n && leb (n / u) 4096)).0 h in
    let (b, c) = (and-eq-true_iff (ltb 0 n) (leb (n / u) 4096)).0 bc in
    let e : n % u ≡ 0 = eqb-true (n % u) 0 a in
    let q : 1 ≤ n / u = quotient_pos n u e (ltb-true 0 n b) in
    let k : n / u - 1 + 1 ≡ n / u = omega arith in
    record {
      count = ap (λ (x : ℕ). x * u) k ∙ omega (arith, div-add-mod' n u, e);
      size_fits = omega (arith, leb-true (n / u) 4096 c);
      mult_fits = small;
    }

gives-divides : (n size mult : ℕ) → Gives n size mult → divides n mult ≡ true
unfolding divides
gives-divides n size mult g =
    let u : ℕ = 2 ^ (mult + 2) in
    let q : n / u ≡ size + 1 = ap (λ (x : ℕ). x / u) (sym g.count) ∙ shl-shr (size + 1) (mult + 2) in
    let r : n % u ≡ 0 = ap (λ (x : ℕ). x % u) (sym g.count) ∙ mul-mod_left (size + 1) u in
    let pos : 0 < n = omega (arith, g.count, pow_pos (mult + 2)) in
    (and-eq-true_iff (eqb (n % u) 0) _).1
    (eq-eqb (n % u) 0 r, (and-eq-true_iff (ltb 0 n) _).1 (lt-ltb 0 n pos, le-leb (n / u) 4096 (omega (arith, q, g.size_fits))))

-- ---- k multipliers from `mult` on

-- the first that divides the count, or none of them
unfoldable Found : ℕ → ℕ → ℕ → Option SizePair → Type 0
Found n mult k (Some p) =
    let m = p.c_size_mult in
    (m < mult + k) × (divides n m ≡ true) × (n / 2 ^ (m + 2) - 1 ≡ p.c_size) × ((j : ℕ) → mult ≤ j → j < m → divides n j ≡ false)
Found n mult k None = (j : ℕ) → mult ≤ j → j < mult + k → divides n j ≡ false

-- one more in front that does not divide it
module _ (n mult k : ℕ) (d : divides n mult ≡ false) where
  first-not : (j : ℕ) → mult ≤ j → (mult + 1 ≤ j → divides n j ≡ false) → divides n j ≡ false
  first-not j lo later = go (eqb mult j) refl
    where
      go : (b : Bool) → eqb mult j ≡ b → divides n j ≡ false
      go true e = ap (divides n) (sym (eqb-true mult j e)) ∙ d
      go false e = later (omega (arith, eqb-false mult j e))

  found-more : (p : Option SizePair) → Found n (mult + 1) k p → Found n mult (suc k) p
  unfolding Found
  found-more (Some p) (lt, t, e, none) = (omega arith, t, e, λ j lo hi. first-not j lo (λ h. none j h hi))
  found-more None none = λ j lo hi. first-not j lo (λ h. none j h (omega arith))

searched : (k n mult : ℕ) → Found n mult k (pair_from n mult k)
unfolding pair_from Found
searched zero n mult = λ j lo hi. absurd (omega arith)
searched (suc k) n mult = go (divides n mult) refl (searched k n (mult + 1))
  where
    go : (b : Bool) → divides n mult ≡ b → Found n (mult + 1) k (pair_from n (mult + 1) k)
        → Found n mult (suc k) (cond b (Some (record { c_size = n / 2 ^ (mult + 2) - 1; c_size_mult = mult })) (pair_from n (mult + 1) k))
    go true d r = (omega arith, d, refl, λ j lo hi. absurd (omega arith))
    go false d r = found-more n mult k d (pair_from n (mult + 1) k) r

found-pair : (n : ℕ) (p : Option SizePair) → size_pair n ≡ p → Found n 0 8 p
unfolding size_pair
found-pair n p e = rw e at (searched 8 n 0)

not-given : (n size mult : ℕ) → divides n mult ≡ false → Gives n size mult → ⊥
not-given n size mult d g = false≢true (sym d ∙ gives-divides n size mult g)

-- ---- 01's pair

pair-right : (n : ℕ) (p : SizePair) → size_pair n ≡ Some p → IsPair n p.c_size p.c_size_mult
unfolding Found
pair-right n p e =
    let mult = p.c_size_mult in
    let (lt, t, is, none) = found-pair n (Some p) e in
    record {
      gives = rw is at (divides-gives n mult t (omega arith));
      smallest = λ s m g. not-below m (λ h. not-given n s m (none m (omega arith) h) g);
    }
  where
    not-below : (m : ℕ) → (m < p.c_size_mult → ⊥) → p.c_size_mult ≤ m
    not-below m h = omega arith

pair-none : (n : ℕ) → size_pair n ≡ None → (size mult : ℕ) → Gives n size mult → ⊥
unfolding Found
pair-none n e size mult g = not-given n size mult (found-pair n None e mult (omega arith) (omega (arith, g.mult_fits))) g

pub size-pair_right : SizePairRight
size-pair_right = record { pair = pair-right; none = pair-none }
