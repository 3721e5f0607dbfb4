-- Blocks one after the other.
use mathlib.Core.Path.{◌≡◌, ap, ◌∙◌}
use mathlib.Core.Bool.{Bool, true, false, ◌||◌}
use mathlib.Core.List.{List}
use Prim.Native.Nat.{ℕ, suc, ◌+◌, ◌-◌, ◌*◌, ◌<◌, ◌≤◌}
use native.Mathlib.Omega.{arith}
use Rattle.card.specs.Settings.{BLOCK}
use Rattle.card.specs.Protect.{guarded, any_guarded}

-- one block, and those behind it
pub left_one : (b e : ℕ) → b < e → e - b ≡ suc (e - (b + 1))
left_one b e h = omega arith

module _ (all : Bool) (marks : List ℕ) (b e : ℕ) where
  any_cons : b < e → any_guarded all marks b (e - b) ≡ (guarded all marks (b * BLOCK) || any_guarded all marks (b + 1) (e - (b + 1)))
  unfolding any_guarded
  any_cons h = ap (any_guarded all marks b) (left_one b e h)

  pub any_one : b < e → guarded all marks (b * BLOCK) ≡ true → any_guarded all marks b (e - b) ≡ true
  any_one h g = any_cons h ∙ ap (λ (t : Bool). t || any_guarded all marks (b + 1) (e - (b + 1))) g

  pub any_none : b < e → guarded all marks (b * BLOCK) ≡ false → any_guarded all marks b (e - b) ≡ any_guarded all marks (b + 1) (e - (b + 1))
  any_none h g = any_cons h ∙ ap (λ (t : Bool). t || any_guarded all marks (b + 1) (e - (b + 1))) g

  pub any_end : e ≤ b → any_guarded all marks b (e - b) ≡ false
  unfolding any_guarded
  any_end h = let z : e - b ≡ 0 = omega arith in ap (any_guarded all marks b) z
