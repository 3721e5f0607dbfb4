-- What holds of a choice holds of both its ways: for tests, and for the refusals of a call.
use mathlib.Core.Path.{◌≡◌, refl}
use mathlib.Core.Bool.{Bool, true, false, cond, not, ◌&&◌, ◌||◌, true≢false, and-eq-true_iff}
use mathlib.Core.List.{List, ◌∷◌}
use mathlib.Core.Option.{Option, none, some}
use Prim.Native.Nat.{ℕ}
use native.Mathlib.Omega.{arith}
use borrow.Author.Tests.{not-false}
use Rattle.card.specs.declared.answer.Rows.{Rows}
use Rattle.card.specs.Step.{World, Result, refuse, applies, refusal, unless}

pub cond_elim {ℓ κ} : {A : Type ℓ} (P : A → Type κ) (b : Bool) {x y : A} → (b ≡ true → P x) → (b ≡ false → P y) → P (cond b x y)
cond_elim P true yes-case no-case = yes-case refl
cond_elim P false yes-case no-case = no-case refl

pub cond_either : {A : Type 0} (P : A → Type 0) (b : Bool) {x y : A} → P x → P y → P (cond b x y)
cond_either P b p q = cond_elim P b (λ e. p) (λ e. q)

-- none of two tests holds
pub neither : (a b : Bool) → (a || b) ≡ false → (a ≡ false) × (b ≡ false)
neither true b e = absurd (true≢false e)
neither false b e = (refl, e)

pub nor : {a b : Bool} → a ≡ false → b ≡ false → (a || b) ≡ false
nor {a} {b} p q = rw (p, q)

-- both tests hold
pub both : (a b : Bool) → not (a && b) ≡ false → (a ≡ true) × (b ≡ true)
both a b e = (and-eq-true_iff a b).0 (not-false (a && b) e)

pub not-both : {a b : Bool} → a ≡ true → b ≡ true → not (a && b) ≡ false
not-both {a} {b} p q = rw (p, q)

-- ---- refusals

pub unless-either : (R : Result → Result → Type 0) (o : Option ℕ) (v w : World) (out : List ℕ) {x y : Result}
    → ((k : ℕ) → R (refuse v out k) (refuse w out k)) → R x y → R (unless o v out x) (unless o w out y)
unless-either R none v w out p q = q
unless-either R (some k) v w out p q = p k

pub unless_keeps : (P : Result → Type 0) (o : Option ℕ) (w : World) (out : List ℕ) {x : Result} → ((k : ℕ) → P (refuse w out k))
    → (o ≡ none → P x) → P (unless o w out x)
unless_keeps P none w out p q = q refl
unless_keeps P (some k) w out p q = p k

-- where no row applies, the first does not, and none of the others
pub spared : (n : ℕ) (ns : List ℕ) (r : Rows) → refusal (n ∷ ns) r ≡ none → (applies r n ≡ false) × (refusal ns r ≡ none)
unfolding refusal
spared n ns r e = go (applies r n) refl e
  where
    go : (b : Bool) → applies r n ≡ b → cond b (some n) (refusal ns r) ≡ none → (b ≡ false) × (refusal ns r ≡ none)
    go true q e = let z : ◌≡◌ {A = ℕ} 0 1 = cc in absurd (omega arith)
    go false q e = (refl, e)
