-- Nothing of the password shows: each call does the same on two worlds that differ in it alone, but for the bits of a block of 42.
use mathlib.Core.Path.{◌≡◌, refl, sym, ap, subst, ◌∙◌}
use mathlib.Core.Bool.{Bool, true, false, cond, not, ◌||◌, false≢true}
use mathlib.Core.List.{List, [], ◌∷◌}
use mathlib.Core.Option.{Option, none, some}
use Prim.Native.Nat.{ℕ}
use lib.Dec.{eqb, ltb}
use lib.ListN.{length}
use Rattle.codec.specs.Answer.{done}
use Rattle.card.specs.declared.Sink.TheVariants.{Single, Multiple, LockUnlock}
use Rattle.card.specs.declared.State.TheVariants.{Tran, Prg}
use Rattle.card.specs.declared.Open.{Open}
use Rattle.card.specs.declared.Open.TheVariants.{Nothing, Read, Write, Busy}
use Rattle.card.specs.declared.Kept.{Kept}
use Rattle.card.specs.declared.Core.{Core}
use Rattle.card.specs.declared.Password.{Password}
use Rattle.card.specs.declared.lock.Operation.{Operation}
use Rattle.card.specs.declared.lock.Operation.TheVariants.{ForceErase, Lock, Unlock, ClearPassword, SetPassword, Invalid}
use Rattle.card.specs.Record.{with_kept, with_locked, with_state}
use Rattle.card.specs.State.{locking, reading, writing, busy}
use Rattle.card.specs.Status.{only, join, LOCK_UNLOCK_FAILED}
use Rattle.card.specs.Soundness.{unsound, bad_password}
use Rattle.card.specs.Execute.{raise, moved}
use Rattle.card.specs.Effects.{affected}
use Rattle.card.specs.Frame.{Turn, token, quiet, said}
use Rattle.card.specs.Receive.{receive}
use Rattle.card.specs.Lock.{operation, succeeds}
use Rattle.card.specs.Data.{operate, lock_into, block_into, password_into, over_from, ACCEPTED, REJECTED}
use Rattle.card.specs.Step.{Call, power_up, command_frame, block_in, take_block, busy_over, World, world, Result, over, refuse, refusal, FRAME_ROWS, BLOCK_ROWS, TAKE_ROWS, OVER_ROWS, unless, other_size, rows, FRAME, ROOM, other_block, block_room, show, start, opened, Incoming, payload, stop, ignored, success, entered, arrived, handed, power_refusal, frame_refusal, block_refusal, take_refusal, over_refusal, powered_up, framed, given, taken, overed, step, next}
use Rattle.card.specs.declared.command.Command.TheVariants.{StopTransmission}
use Rattle.card.specs.declared.done.Flag.TheVariants.{Keep}
use Rattle.card.specs.History.{Sound}
use Rattle.card.specs.Locked.{SameButPassword, locks, SameBits, PasswordUnseen}
use Rattle.card.proofs.Sound.{keeps_sound}

-- what is claimed of two results; after a block of 42 the worlds are the same if the two bits are
record Matched (lock : Bool) (x y : Result) : Type 0 where
  answer : x.answer ≡ y.answer
  out : x.out ≡ y.out
  memory : x.world.memory ≡ y.world.memory
  world : (lock ≡ true → SameBits x.world y.world) → SameButPassword x.world y.world

-- a choice of two refusals that are the same
unless-both : (R : Result → Result → Type 0) (o p : Option ℕ) → o ≡ p → (v w : World) (out : List ℕ) (x y : Result)
    → ((k : ℕ) → R (refuse v out k) (refuse w out k)) → R x y → R (unless o v out x) (unless p w out y)
unless-both R o p e v w out x y f g = subst (λ (q : Option ℕ). R (unless o v out x) (unless q w out y)) e (go o)
  where
    go : (q : Option ℕ) → R (unless q v out x) (unless q w out y)
    go none = g
    go (some k) = f k

-- ---- the record after a block of 42 that succeeded on one card and failed on the other

or-false : (b : Bool) → b ≡ (b || false)
or-false true = refl
or-false false = refl

-- a bit that is there is raised in vain
raised : (k : Kept) → k.lock_unlock_failed ≡ (k.lock_unlock_failed || true) → k ≡ join k (only LOCK_UNLOCK_FAILED)
raised k e = λ i. record {
  out_of_range = or-false k.out_of_range i;
  address_error = or-false k.address_error i;
  block_len_error = or-false k.block_len_error i;
  erase_seq_error = or-false k.erase_seq_error i;
  erase_param = or-false k.erase_param i;
  wp_violation = or-false k.wp_violation i;
  lock_unlock_failed = e i;
  illegal_command = or-false k.illegal_command i;
  wp_erase_skip = or-false k.wp_erase_skip i;
  erase_reset = or-false k.erase_reset i;
}

module _ (w : World) (p : Password) where
  abbrev other : World
  other = record { card = record { core = w.card.core; password = p; line = w.card.line }; memory = w.memory }

  refuse-alike : (b : Bool) (out : List ℕ) (k : ℕ) → Matched b (refuse w out k) (refuse other out k)
  refuse-alike b out k = record { answer = refl; out = refl; memory = refl; world = λ h. record { core = refl; line = refl; memory = refl } }

  -- one turn on both
  show-alike : (b : Bool) (q r : Password) (out : List ℕ) (t : Turn) → Matched b (show w q out t) (show other r out t)
  unfolding show
  show-alike b q r out t = record { answer = refl; out = refl; memory = refl; world = λ h. record { core = refl; line = refl; memory = refl } }

  abbrev core : Core
  core = w.card.core

  abbrev failed : Turn
  failed = said (with_state (raise core LOCK_UNLOCK_FAILED) Prg) (token ACCEPTED)

  -- the operation is no force erase: nothing but the two bits tells the cards apart

  forward : (l : Bool) (q r : Password)
      → Matched true (show w q [] (said (with_state (with_locked core l) Prg) (token ACCEPTED))) (show other r [] failed)
  unfolding show affected
  forward l q r = record {
    answer = refl;
    out = refl;
    memory = refl;
    world =
        λ h.
        let bits = h refl in
        let k = raised core.kept bits.lock_unlock_failed in
        record { core = λ i. with_state (with_kept (with_locked core (bits.card_is_locked i)) (k i)) Prg; line = refl; memory = refl };
  }

  backward : (l : Bool) (q r : Password)
      → Matched true (show w q [] failed) (show other r [] (said (with_state (with_locked core l) Prg) (token ACCEPTED)))
  unfolding show affected
  backward l q r = record {
    answer = refl;
    out = refl;
    memory = refl;
    world =
        λ h.
        let bits = h refl in
        let k = raised core.kept (sym bits.lock_unlock_failed) in
        record { core = sym (λ i. with_state (with_kept (with_locked core (sym bits.card_is_locked i)) (k i)) Prg); line = refl; memory = refl };
  }

  -- an operation, with what it comes to on each
  mixed : (o : Operation) (x y : Bool) → (o ≡ ForceErase → x ≡ y) → (q r : Password)
      → Matched true (show w q [] (cond x (operate o core) failed)) (show other r [] (cond y (operate o core) failed))
  mixed o true true h q r = show-alike true q r [] (operate o core)
  mixed o false false h q r = show-alike true q r [] failed
  mixed ForceErase true false h q r = absurd (false≢true (sym (h refl)))
  mixed Lock true false h q r = forward true q r
  mixed Unlock true false h q r = forward false q r
  mixed ClearPassword true false h q r = forward false q r
  mixed (SetPassword lock) true false h q r = forward lock q r
  mixed Invalid true false h q r = forward core.locked q r
  mixed ForceErase false true h q r = absurd (false≢true (h refl))
  mixed Lock false true h q r = backward true q r
  mixed Unlock false true h q r = backward false q r
  mixed ClearPassword false true h q r = backward false q r
  mixed (SetPassword lock) false true h q r = backward lock q r
  mixed Invalid false true h q r = backward core.locked q r

  lock-alike : (right : Bool) (s : List ℕ) (x y : Bool) → (operation s ≡ ForceErase → x ≡ y) → (q r : Password)
      → Matched true (show w q [] (lock_into right x core s)) (show other r [] (lock_into right y core s))
  unfolding lock_into
  lock-alike true s x y h q r = mixed (operation s) x y h q r
  lock-alike false s x y h q r = show-alike true q r [] (said (with_state core Tran) (token REJECTED))

  -- a force erase does not look at the password
  same-success : (s : List ℕ) → operation s ≡ ForceErase → success w s ≡ success other s
  unfolding succeeds
  same-success s e = rw e refl

  block-alike : (right : Bool) (s : List ℕ) (o : Open) (q r : Password)
      → Matched (locking o) (show w q [] (block_into o right (success w s) core s)) (show other r [] (block_into o right (success other s) core s))
  unfolding block_into
  block-alike right s Nothing q r = show-alike false q r [] _
  block-alike right s (Read x) q r = show-alike false q r [] _
  block-alike right s (Write (Single a held)) q r = show-alike false q r [] _
  block-alike right s (Write (Multiple a held)) q r = show-alike false q r [] _
  block-alike right s (Write LockUnlock) q r = lock-alike right s (success w s) (success other s) (same-success s) q r
  block-alike right s (Busy x) q r = show-alike false q r [] _

  entered-alike : (i : Incoming) → Matched (locking (opened w)) (entered w i) (entered other i)
  unfolding entered
  entered-alike (payload right s) =
      block-alike right s (opened w) (password_into (opened w) right (success w s) w.card.password s) (password_into (opened w) right (success other s) p s)
  entered-alike stop = show-alike (locking (opened w)) w.card.password p [] (quiet (moved StopTransmission core) Keep)
  entered-alike ignored = show-alike (locking (opened w)) w.card.password p [] (quiet core Keep)

  -- ---- the five calls

  module _ (mine : bad_password core.locked w.card.password.length ≡ false) (others : bad_password core.locked p.length ≡ false) where
    -- row 2 is the same on both
    same-refusal : (ns : List ℕ) (size buffer closed : Bool) → refusal ns (rows w size buffer closed) ≡ refusal ns (rows other size buffer closed)
    same-refusal ns size buffer closed =
        ap
        (λ (b : Bool). refusal ns (record {
          size = size;
          unsound = unsound core || b;
          memory = other_size w.memory core.settings;
          buffer = buffer;
          closed = closed;
          settings = false;
        }))
        (mine ∙ sym others)

    step-alike : (c : Call) → Matched (locks w c) (step w c) (step other c)
    unfolding step powered_up framed given taken overed
    step-alike (power_up s q) =
        let r : Result = record { answer = done over; world = world (start s q) w.memory; out = [] } in
        unless-both (Matched false) (power_refusal w s q) (power_refusal w s q) refl w other [] r r (refuse-alike false [])
        (record { answer = refl; out = refl; memory = refl; world = λ h. record { core = refl; line = refl; memory = refl } })
    step-alike (command_frame frame low out) =
        let t = receive core low frame in
        unless-both (Matched false) (frame_refusal w frame out) (frame_refusal other frame out)
        (same-refusal FRAME_ROWS (not (eqb (length frame) FRAME)) (ltb (length out) ROOM) false) w other out
        (show w w.card.password out t) (show other p out t) (refuse-alike false out) (show-alike false w.card.password p out t)
    step-alike (block_in s) =
        let o = opened w in
        unless-both (Matched (locking o)) (block_refusal w s) (block_refusal other s)
        (same-refusal BLOCK_ROWS (other_block core s) false (not (writing o))) w other []
        (entered w (arrived w s)) (entered other (arrived w s)) (refuse-alike (locking o) []) (entered-alike (arrived w s))
    step-alike (take_block out) =
        let t = handed w in
        unless-both (Matched false) (take_refusal w out) (take_refusal other out)
        (same-refusal TAKE_ROWS false (ltb (length out) (block_room core)) (not (reading (opened w)))) w other out
        (show w w.card.password out t) (show other p out t) (refuse-alike false out) (show-alike false w.card.password p out t)
    step-alike busy_over =
        let t = over_from (opened w) core in
        unless-both (Matched false) (over_refusal w) (over_refusal other) (same-refusal OVER_ROWS false false (not (busy (opened w)))) w other []
        (show w w.card.password [] t) (show other p [] t) (refuse-alike false []) (show-alike false w.card.password p [] t)

-- ---- lists of calls

matched : (a b : World) → Sound a → Sound b → SameButPassword a b → (c : Call) → Matched (locks a c) (step a c) (step b c)
matched a b s t e c =
    let w : World = other a b.card.password in
    let same : w ≡ b = λ i. record { card = record { core = e.core i; password = b.card.password; line = e.line i }; memory = e.memory i } in
    let locked : bad_password a.card.core.locked b.card.password.length ≡ false =
    ap (λ (d : Core). bad_password d.locked b.card.password.length) e.core ∙ t.password in
    subst (λ (v : World). Matched (locks a c) (step a c) (step v c)) same (step-alike a b.card.password s.password locked c)

pub password_unseen : PasswordUnseen
password_unseen a b s t e [] = tt
password_unseen a b s t e (c ∷ cs) =
    let m = matched a b s t e c in (
      record { answer = m.answer; out = m.out; memory = m.memory },
      λ bits. password_unseen (next a c) (next b c) (keeps_sound a c s) (keeps_sound b c t) (m.world bits) cs,
    )
