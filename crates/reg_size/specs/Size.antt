-- The size pair: block count n = (C_SIZE+1) × 2^(C_SIZE_MULT+2), C_SIZE ≤ 4095, C_SIZE_MULT ≤ 7, the smallest multiplier.
use Rattle.std.specs.Prelude.{◌≡◌, Bool, cond, ◌&&◌, ℕ, zero, suc, ◌+◌, ◌-◌, ◌*◌, ◌/◌, ◌%◌, ◌^◌, ◌≤◌, eqb, leb, ltb, Option, Some, None}
use Rattle.reg_size.specs.declared.SizePair.{SizePair}

-- the block count of a pair
abbrev pub blocks : ℕ → ℕ → ℕ
blocks size mult = (size + 1) * 2 ^ (mult + 2)

-- a pair of fields that gives n
pub record Gives (n size mult : ℕ) : Type 0 where
  pub count : blocks size mult ≡ n
  pub size_fits : size ≤ 4095
  pub mult_fits : mult ≤ 7

-- 01's pair: one that gives n, and none with a smaller multiplier does
pub record IsPair (n size mult : ℕ) : Type 0 where
  pub gives : Gives n size mult
  pub smallest : (s m : ℕ) → Gives n s m → mult ≤ m

-- some C_SIZE gives n with this multiplier: 2^(mult+2) divides n, at most 4,096 times
unfoldable pub divides : ℕ → ℕ → Bool
divides n mult = eqb (n % 2 ^ (mult + 2)) 0 && (ltb 0 n && leb (n / 2 ^ (mult + 2)) 4096)

-- the first of k multipliers from `mult` on
unfoldable pub pair_from : ℕ → ℕ → ℕ → Option SizePair
pair_from n mult zero = None
pair_from n mult (suc k) =
    let r = pair_from n (mult + 1) k in
    cond (divides n mult) (Some (record { c_size = n / 2 ^ (mult + 2) - 1; c_size_mult = mult })) r

unfoldable pub size_pair : ℕ → Option SizePair
size_pair n = pair_from n 0 8
