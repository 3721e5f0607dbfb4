-- Lists compared element by element.
use mathlib.Core.Path.{◌≡◌, refl, sym, ap, ◌∙◌}
use mathlib.Core.Bool.{Bool, false, true, ◌&&◌, and-false}
use mathlib.Core.List.{List, [], ◌∷◌}
use Prim.Native.Nat.{ℕ, suc}
use native.Mathlib.Omega.{arith}
use lib.Dec.{eqb}
use lib.ListN.{length}
use Rattle.card.specs.Soundness.{equal}

-- lists of two lengths differ
pub lengths_differ : (a b : List ℕ) → (length a ≡ length b → ⊥) → equal a b ≡ false
unfolding equal
lengths_differ [] [] n = absurd (n refl)
lengths_differ [] (y ∷ b) n = refl
lengths_differ (x ∷ a) [] n = refl
lengths_differ (x ∷ a) (y ∷ b) n = rw (lengths_differ a b (λ e. n (ap suc e)), and-false)

-- what was looked at is right, and one more is looked at
pub right-more : (x y : ℕ) (a b s t : List ℕ) → s ≡ x ∷ a → t ≡ y ∷ b → (right : Bool) (all : Bool)
    → (length s ≡ length t) × ((right && equal s t) ≡ all) → (length a ≡ length b) × (((right && eqb x y) && equal a b) ≡ all)
unfolding equal
right-more x y a b s t hs ht right all inv = (omega (arith, sym (ap length hs) ∙ inv.0 ∙ ap length ht), judged right inv.1)
  where
    judged : (r : Bool) → (r && equal s t) ≡ all → ((r && eqb x y) && equal a b) ≡ all
    judged true e = rw (hs, ht) at e
    judged false e = e

-- nothing is left
pub right_end : (a b : List ℕ) → a ≡ [] → b ≡ [] → (right : Bool) (all : Bool) → (right && equal a b) ≡ all → right ≡ all
unfolding equal
right_end a b ha hb true all inv = rw (ha, hb) at inv
right_end a b ha hb false all inv = inv
