-- A password that replaces another is not too long.
use mathlib.Core.Path.{◌≡◌, sym, ap, ◌∙◌}
use mathlib.Core.Bool.{Bool, true, ◌&&◌, and-eq-true_iff}
use mathlib.Core.List.{List}
use Prim.Native.Nat.{ℕ, ◌+◌, ◌≤◌}
use native.Mathlib.Omega.{arith}
use borrow.Author.Tests.{leb-true}
use lib.Dec.{leb}
use lib.ListN.{length, length-drop}
use Rattle.card.specs.declared.Password.{Password}
use Rattle.card.specs.declared.lock.Operation.{Operation}
use Rattle.card.specs.Settings.{PASSWORD}
use Rattle.card.specs.Lock.{password_data, complete, begins, replaces, succeeds}
use Rattle.card_lock.specs.Relock.{Room}

pub room : (o : Operation) (locked permanent : Bool) (p : Password) (s : List ℕ) → succeeds o locked permanent p s ≡ true → Room o p s
unfolding succeeds replaces
room o locked permanent p s e lock k =
    let d = password_data s in
    let new : (complete s && replaces p d) ≡ true = sym (ap (λ (x : Operation). succeeds x locked permanent p s) k) ∙ e in
    let sizes = second (begins p d) _ (second (complete s) _ new) in
    let most : length d ≤ p.length + PASSWORD = leb-true (length d) (p.length + PASSWORD) (second (leb (p.length + 1) (length d)) _ sizes) in
    omega (arith, length-drop p.length d)
  where
    second : (a b : Bool) → (a && b) ≡ true → b ≡ true
    second a b e = ((and-eq-true_iff a b).0 e).1
