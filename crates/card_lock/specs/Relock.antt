-- An operation of 42: the password behind it, where it succeeds.
use Rattle.std.specs.Prelude.{◌≡◌, Bool, cond, List, ℕ, ◌≤◌, length, drop, Option, Some, None}
use Rattle.card.specs.declared.Password.{Password}
use Rattle.card.specs.declared.lock.Operation.{Operation}
use Rattle.card.specs.declared.lock.Operation.TheVariants.{SetPassword}
use Rattle.card.specs.Settings.{PASSWORD}
use Rattle.card.specs.Lock.{password_data, succeeds, changed}

-- a new password is not too long
abbrev pub Room : Operation → Password → List ℕ → Type 0
Room o p s = (lock : Bool) → o ≡ SetPassword lock → length (drop p.length (password_data s)) ≤ PASSWORD

-- the password behind an operation that succeeds, or none
abbrev pub relocked : Operation → Bool → Bool → Password → List ℕ → Option Password
relocked o locked permanent p s = cond (succeeds o locked permanent p s) (Some (changed o p s)) None
