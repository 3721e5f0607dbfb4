-- The search for the size pair, turn by turn.
use mathlib.Core.Path.{◌≡◌, refl, sym, ap, ◌∙◌}
use mathlib.Core.Bool.{Bool, true, false, cond, and-false}
use Prim.Native.Nat.{ℕ, zero, suc, ◌+◌, ◌-◌, ◌*◌, ◌/◌, ◌%◌, ◌^◌, ◌≤◌, ◌<◌}
use native.Mathlib.Nat.{div-add-mod', one-mul}
use native.Mathlib.Omega.{arith}
use borrow.Author.Tests.{eq-eqb, ne_eqb, lt-ltb, le-ltb, le-leb, lt-leb}
use lib.Pow.{shl_exact}
use Rattle.std.proofs.Common.{Some, None}
use Rattle.reg_size.specs.Size.{divides, pair_from, size_pair}

pub passed_none : (n : ℕ) → size_pair n ≡ pair_from n 0 8
unfolding size_pair
passed_none n = refl

pub passed_all : (n mult : ℕ) → size_pair n ≡ pair_from n mult (8 - mult) → 8 ≤ mult → None ≡ size_pair n
unfolding pair_from
passed_all n mult left h =
    let k : 8 - mult ≡ 0 = omega arith in
    sym (left ∙ ap (pair_from n mult) k)

-- the units of the multiplier, as the code shifts them
shifted : (mult : ℕ) → mult < 8 → 1 * 2 ^ (mult + 2) % 2 ^ 32 ≡ 2 ^ (mult + 2)
shifted mult h = shl_exact 1 (mult + 2) 32 (omega arith) (omega arith) ∙ one-mul (2 ^ (mult + 2))

-- one more turn, where the first multipliers are passed
module _ (n mult : ℕ) (left : size_pair n ≡ pair_from n mult (8 - mult)) (h : mult < 8) where
  abbrev unit : ℕ
  unit = 1 * 2 ^ (mult + 2) % 2 ^ 32

  turn : (b : Bool) → divides n mult ≡ b
      → size_pair n ≡ cond b (Some (record { c_size = n / 2 ^ (mult + 2) - 1; c_size_mult = mult })) (pair_from n (mult + 1) (8 - (mult + 1)))
  unfolding pair_from
  turn b e =
      let k : 8 - mult ≡ suc (8 - (mult + 1)) = omega arith in
      left
      ∙ ap (pair_from n mult) k
      ∙ ap (λ (x : Bool). cond x (Some (record { c_size = n / 2 ^ (mult + 2) - 1; c_size_mult = mult })) (pair_from n (mult + 1) (8 - (mult + 1)))) e

  test : n % unit ≡ n % 2 ^ (mult + 2)
  test = ap (λ (u : ℕ). n % u) (shifted mult h)

  quotient : n / unit ≡ n / 2 ^ (mult + 2)
  quotient = ap (λ (u : ℕ). n / u) (shifted mult h)

  pub found : n % unit ≡ 0 → 0 < n → n / unit ≤ 4096 → Some (record { c_size = n / unit - 1; c_size_mult = mult }) ≡ size_pair n
  unfolding divides
  found a b q =
      ap (λ (x : ℕ). Some (record { c_size = x - 1; c_size_mult = mult })) quotient
      ∙ sym
      (turn true
      (simp (eq-eqb (n % 2 ^ (mult + 2)) 0 (sym test ∙ a), lt-ltb 0 n b, le-leb (n / 2 ^ (mult + 2)) 4096 (rw quotient at q))))

  pub not_divided : (n % unit ≡ 0 → ⊥) → size_pair n ≡ pair_from n (mult + 1) (8 - (mult + 1))
  unfolding divides
  not_divided k = turn false (rw (ne_eqb (n % 2 ^ (mult + 2)) 0 (λ e. k (test ∙ e))))

  pub not_counted : n ≤ 0 → size_pair n ≡ pair_from n (mult + 1) (8 - (mult + 1))
  unfolding divides
  not_counted k = turn false (simp (le-ltb 0 n k, and-false))

  pub not_small : 4096 < n / unit → size_pair n ≡ pair_from n (mult + 1) (8 - (mult + 1))
  unfolding divides
  not_small k = turn false (simp (lt-leb (n / 2 ^ (mult + 2)) 4096 (rw quotient at k), and-false))

pub quotient_pos : (n u : ℕ) → n % u ≡ 0 → 0 < n → 1 ≤ n / u
quotient_pos n u e h = go (n / u) (div-add-mod' n u)
  where
    go : (q : ℕ) → q * u + n % u ≡ n → 1 ≤ q
    go zero k = absurd (omega arith)
    go (suc q) k = omega arith
