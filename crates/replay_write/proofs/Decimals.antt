-- A refusal's number, by how many digits it has.
use mathlib.Core.Path.{◌≡◌}
use mathlib.Core.List.{[], ◌∷◌}
use Prim.Native.Nat.{ℕ, ◌+◌, ◌/◌, ◌%◌, ◌<◌, ◌≤◌}
use native.Mathlib.Nat.{mod-eq_of_lt}
use native.Mathlib.Omega.{arith}
use borrow.Author.Tests.{lt-ltb, le-ltb}
use Rattle.replay_write.specs.Write.{refusal}

pub one-digit : (k : ℕ) → k < 10 → 114 ∷ 101 ∷ 102 ∷ 9 ∷ (48 + k % 10) ∷ 10 ∷ [] ≡ refusal k
one-digit k h = simp (lt-ltb k 10 h, mod-eq_of_lt h)

pub two_digits : (k : ℕ) → 10 ≤ k → k < 100 → 114 ∷ 101 ∷ 102 ∷ 9 ∷ (48 + k / 10 % 10) ∷ (48 + k % 10) ∷ 10 ∷ [] ≡ refusal k
two_digits k l h =
    let tens : k / 10 < 10 = omega arith in
    simp (le-ltb k 10 l, lt-ltb k 100 h, mod-eq_of_lt tens)

pub three_digits : (k : ℕ) → 100 ≤ k
    → 114 ∷ 101 ∷ 102 ∷ 9 ∷ (48 + k / 100) ∷ (48 + k / 10 % 10) ∷ (48 + k % 10) ∷ 10 ∷ [] ≡ refusal k
three_digits k l = let m : 10 ≤ k = omega arith in simp (le-ltb k 10 m, le-ltb k 100 l)
