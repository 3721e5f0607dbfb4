-- Lists compared element by element, and parts of them.
use mathlib.Core.Path.{◌≡◌, refl, sym, ap, ◌∙◌}
use mathlib.Core.Bool.{Bool, false, and-false}
use mathlib.Core.List.{List, [], ◌∷◌}
use Prim.Native.Nat.{ℕ, suc}
use lib.Dec.{eqb}
use lib.ListN.{length}
use lib.Pointwise.{pointwise}
use Rattle.std.specs.Prelude.{nat_eq}
use Rattle.card.specs.Soundness.{equal}

-- lists of two lengths differ
pub lengths_differ : (a b : List ℕ) → (length a ≡ length b → ⊥) → equal a b ≡ false
unfolding equal
lengths_differ [] [] n = absurd (n refl)
lengths_differ [] (y ∷ b) n = refl
lengths_differ (x ∷ a) [] n = refl
lengths_differ (x ∷ a) (y ∷ b) n = rw (lengths_differ a b (λ e. n (ap suc e)), and-false)

-- how the library compares slices of bytes
pub same_bytes : (a b : List ℕ) → pointwise nat_eq a b ≡ equal a b
unfolding equal
same_bytes [] [] = refl
same_bytes [] (y ∷ b) = refl
same_bytes (x ∷ a) [] = refl
same_bytes (x ∷ a) (y ∷ b) = rw (same_bytes a b) refl

pub same_word : (s w t : List ℕ) (b : Bool) → t ≡ w → b ≡ pointwise nat_eq s t → equal s w ≡ b
same_word s w t b e h = sym (same_bytes s w) ∙ ap (λ (x : List ℕ). pointwise nat_eq s x) (sym e) ∙ sym h
