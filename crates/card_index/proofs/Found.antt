-- A command found in a list, as the library finds it.
use mathlib.Core.Path.{◌≡◌, refl}
use mathlib.Core.Bool.{Bool, true, false, cond}
use mathlib.Core.List.{List, [], ◌∷◌}
use Prim.Native.Nat.{ℕ}
use Rattle.std.specs.Prelude.{Option}
use Rattle.std.specs.Option.{unwrap_or}
use Rattle.std.specs.List as Library
use Rattle.card.specs.declared.command.Command.{Command}
use Rattle.card.specs.Table.{fits, find}

module _ (application : Bool) (index : ℕ) (own : Bool) (other : Command) where
  first : (k : Command) (ks : List Command) (b : Bool) → unwrap_or (Library.find (fits application index own) ks) other ≡ find ks application index own other
      → unwrap_or (cond b (Option.Some k) (Library.find (fits application index own) ks)) other ≡ cond b k (find ks application index own other)
  first k ks true h = refl
  first k ks false h = h

  pub found-is : (ks : List Command) → unwrap_or (Library.find (fits application index own) ks) other ≡ find ks application index own other
  unfolding find
  found-is [] = refl
  found-is (k ∷ ks) = first k ks (fits application index own k) (found-is ks)
