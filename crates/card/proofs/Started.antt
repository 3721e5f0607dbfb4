-- What a command comes to, and its start checks: one that fails leaves a sound record, and one that passes gives its fact.
use mathlib.Core.Path.{◌≡◌, refl}
use mathlib.Core.Bool.{Bool, true, false, cond}
use mathlib.Core.List.{List, [], ◌∷◌}
use mathlib.Core.Option.{Option, none, some}
use Prim.Native.Nat.{ℕ, ◌<◌}
use native.Mathlib.Omega.{arith}
use borrow.Author.Tests.{leb-false}
use Rattle.card.specs.declared.Core.{Core}
use Rattle.card.specs.declared.done.Response.{Response}
use Rattle.card.specs.declared.done.Response.TheVariants.{R1}
use Rattle.card.specs.declared.done.Done.{Done}
use Rattle.card.specs.Status.{OUT_OF_RANGE}
use Rattle.card.specs.Checks.{Check, ◌sets◌, first_failure, outside}
use Rattle.card.specs.Execute.{ran, raise, checked}
use Rattle.card.proofs.Facts.{Sturdy}
use Rattle.card.proofs.Extent.{Inside}

-- what a command comes to: a record that is sound but for the application mark, with the same settings and marks, and an effect inside the card
pub record Right (c : Core) (d : Done) : Type 0 where
  pub sturdy : Sturdy d.core
  pub settings : d.core.settings ≡ c.settings
  pub marks : d.core.marks ≡ c.marks
  pub inside : Inside c.settings d.effect []

pub right : {c d : Core} {r : Response} → Sturdy d → d.settings ≡ c.settings → d.marks ≡ c.marks → Right c (ran d r)
right f e m = record { sturdy = f; settings = e; marks = m; inside = tt }

-- ---- start checks

pub passed : (x : Check) (xs : List Check) → first_failure (x ∷ xs) ≡ none → (x.fails ≡ false) × (first_failure xs ≡ none)
unfolding first_failure
passed x xs e = go x.fails refl e
  where
    go : (b : Bool) → x.fails ≡ b → cond b (some x.bit) (first_failure xs) ≡ none → (b ≡ false) × (first_failure xs ≡ none)
    go true q e = let z : ◌≡◌ {A = ℕ} 0 1 = cc in absurd (omega arith)
    go false q e = (refl, e)

pub checked-right : (c : Core) (checks : List Check) (d : Done) → Sturdy c → (first_failure checks ≡ none → Right c d) → Right c (checked c checks d)
checked-right c checks d f h = go (first_failure checks) h
  where
    go : (o : Option ℕ) → (o ≡ none → Right c d) → Right c (elim o [ none ↦ d | some n ↦ ran (raise c n) R1 ])
    go none h = h refl
    go (some n) h = right f refl refl

pub address_in : (top a : ℕ) (rest : List Check) → first_failure (outside top a sets OUT_OF_RANGE ∷ rest) ≡ none → a < top
address_in top a rest e = leb-false top a (passed (outside top a sets OUT_OF_RANGE) rest e).0
