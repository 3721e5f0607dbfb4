-- A block of 42, by its payload, and by whether its check is right, or not judged.
use Rattle.std.specs.Prelude.{Bool, true, false, cond, List, [], ℕ}
use Rattle.card.specs.declared.Sink.TheVariants.{LockUnlock}
use Rattle.card.specs.declared.State.TheVariants.{Prg}
use Rattle.card.specs.declared.Open.TheVariants.{Write}
use Rattle.card.specs.declared.Password.{Password}
use Rattle.card.specs.declared.Card.{Card}
use Rattle.card.specs.declared.lock.Operation.{Operation}
use Rattle.card.specs.declared.lock.Operation.TheVariants.{ForceErase, Lock, Unlock, ClearPassword, SetPassword, Invalid}
use Rattle.card.specs.Record.{with_state}
use Rattle.card.specs.Status.{LOCK_UNLOCK_FAILED}
use Rattle.card.specs.Execute.{raise}
use Rattle.card.specs.Lock.{operation, succeeds, changed}
use Rattle.card.specs.Frame.{Turn, token, said}
use Rattle.card.specs.Data.{ACCEPTED, operate, lock_into, password_into}
use Rattle.card_call.specs.Seen.{Seen, turned_with}

-- the lock of `Data.acted`
abbrev pub lock_of : Operation → Bool → Bool
lock_of ForceErase locked = false
lock_of Lock locked = true
lock_of Unlock locked = false
lock_of ClearPassword locked = false
lock_of (SetPassword lock) locked = lock
lock_of Invalid locked = locked

-- ---- a right check

-- an operation that succeeds, with the password that it leaves
abbrev pub performed : Card → Operation → Password → List ℕ → Seen
performed card o p memory = turned_with card p memory [] (operate o card.core)

-- whether the payload's does
abbrev pub succeeded : Card → List ℕ → Bool
succeeded card s = succeeds (operation s) card.core.locked card.core.settings.permanent card.password s

abbrev pub password_after : Card → List ℕ → Password
password_after card s = cond (succeeded card s) (changed (operation s) card.password s) card.password

abbrev pub turn_after : Card → List ℕ → Turn
turn_after card s =
    cond (succeeded card s) (operate (operation s) card.core)
    (said (with_state (raise card.core LOCK_UNLOCK_FAILED) Prg) (token ACCEPTED))

abbrev pub operated : Card → List ℕ → List ℕ → Seen
operated card s memory = turned_with card (password_after card s) memory [] (turn_after card s)

-- ---- either

abbrev pub lock_turned : Card → Bool → List ℕ → List ℕ → Seen
lock_turned card right s memory =
    let success = succeeded card s in
    turned_with card (password_into (Write LockUnlock) right success card.password s) memory [] (lock_into right success card.core s)
