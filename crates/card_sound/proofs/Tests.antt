-- A list of tests, of which some may hold.
use mathlib.Core.Path.{◌≡◌, refl, sym, ap, ◌∙◌}
use mathlib.Core.Bool.{Bool, true, false, ◌||◌}
use mathlib.Core.List.{List, [], ◌∷◌}
use Prim.Native.Nat.{ℕ, zero, suc}
use lib.ListN.{take, drop}
use Rattle.card.specs.Soundness.{any_of}

pub holds : (b : Bool) (bs : List Bool) → b ≡ true → true ≡ any_of (b ∷ bs)
unfolding any_of
holds b bs h = rw h

pub fails : (b r : Bool) (bs : List Bool) → b ≡ false → r ≡ any_of bs → r ≡ any_of (b ∷ bs)
unfolding any_of
fails b r bs h e = rw h e

pub last : (b r : Bool) → r ≡ b → r ≡ any_of (b ∷ [])
unfolding any_of
last true r e = e
last false r e = e

-- an answer to the tests from a place on answers all of them
abbrev pub Passed : ℕ → List Bool → Type 0
Passed n l = (r : Bool) → r ≡ any_of (drop n l) → r ≡ any_of l

any_of-parts : (n : ℕ) (l : List Bool) → any_of l ≡ any_of (take n l) || any_of (drop n l)
unfolding any_of
any_of-parts zero l = refl
any_of-parts (suc n) [] = refl
any_of-parts (suc n) (true ∷ l) = refl
any_of-parts (suc n) (false ∷ l) = any_of-parts n l

module _ (n : ℕ) (l : List Bool) (b : Bool) (first : b ≡ any_of (take n l)) where
  pub first_holds : b ≡ true → true ≡ any_of l
  first_holds h = sym (any_of-parts n l ∙ ap (λ (t : Bool). t || any_of (drop n l)) (sym first ∙ h))

  pub first-fails : (r : Bool) → b ≡ false → r ≡ any_of (drop n l) → r ≡ any_of l
  first-fails r h e = e ∙ sym (any_of-parts n l ∙ ap (λ (t : Bool). t || any_of (drop n l)) (sym first ∙ h))
