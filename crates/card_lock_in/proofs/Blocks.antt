-- An operation of 42 that succeeds, and one that fails.
use mathlib.Core.Path.{◌≡◌, refl, sym, ap, ap₂, ◌∙◌}
use mathlib.Core.Bool.{Bool, true, false, cond}
use mathlib.Core.List.{List, []}
use Prim.Native.Nat.{ℕ}
use lib.ListN.{length}
use Rattle.card.specs.declared.answer.Answer.TheVariants.{Accepted}
use Rattle.card.specs.declared.State.TheVariants.{Prg}
use Rattle.card.specs.declared.Core.{Core}
use Rattle.card.specs.declared.Password.{Password}
use Rattle.card.specs.declared.Card.{Card}
use Rattle.card.specs.declared.lock.Operation.{Operation}
use Rattle.card.specs.declared.lock.Operation.TheVariants.{ForceErase, Lock, Unlock, ClearPassword, SetPassword, Invalid}
use Rattle.card.specs.declared.done.Effect.{Effect}
use Rattle.card.specs.declared.done.Effect.TheVariants.{Nothing}
use Rattle.card.specs.Record.{with_state, with_marks}
use Rattle.card.specs.Status.{LOCK_UNLOCK_FAILED}
use Rattle.card.specs.Protect.{whole}
use Rattle.card.specs.Execute.{raise}
use Rattle.card.specs.Effects.{stored, affected}
use Rattle.card.specs.Lock.{operation, changed}
use Rattle.card.specs.Frame.{Turn, token, said}
use Rattle.card.specs.Data.{ACCEPTED, acted, effect_of, operate}
use Rattle.card_call.specs.declared.Stepped.{Stepped}
use Rattle.card_call.specs.Seen.{Seen, returned, turned_with}
use Rattle.card_call.proofs.Turns as Turns
use Rattle.card_effect.specs.Apply.{reaches}
use Rattle.std.specs.Prelude.{Option, Some, None}
use Rattle.std.proofs.lemmas.Option.{cond_some, none-some}
use Rattle.card_lock.specs.Relock.{relocked}
use Rattle.card_lock_in.specs.Operates.{performed, succeeded, operated}

-- no operation needs more memory than there is
reached : (o : Operation) (n : ℕ) → reaches (effect_of o) 0 n ≡ true
reached ForceErase n = refl
reached Lock n = refl
reached Unlock n = refl
reached ClearPassword n = refl
reached (SetPassword lock) n = refl
reached Invalid n = refl

pub performs : (card : Card) (o : Operation) {p : Password} (r : Stepped) (n d : Core) (f : Effect) (all : Bool) (before memory marks : List ℕ)
    → f ≡ effect_of o
    → all ≡ whole card.core.settings
    → stored memory marks
    ≡ cond (reaches f 0 (length before)) (affected all f [] (stored before card.core.marks)) (stored before card.core.marks)
    → n ≡ with_state (acted o card.core) Prg
    → d ≡ with_marks n marks
    → r ≡ Turns.after_with card p d Accepted
    → returned r memory [] ≡ performed card o p before
performs card o r n d f all before memory marks k w m next same h =
    let x = stored before card.core.marks in
    Turns.operated r card d (with_state (acted o card.core) Prg) (effect_of o) [] memory before marks [] (same ∙ ap (λ (x : Core). with_marks x marks) next)
    (m ∙ ap₂ (λ (g : Effect) (b : Bool). cond (reaches g 0 (length before)) (affected b g [] x) x) k w
    ∙ ap (λ (b : Bool). cond b (affected (whole card.core.settings) (effect_of o) [] x) x) (reached o (length before)))
    h

-- as the password's side told
module _ (card : Card) (s memory : List ℕ) (x : Option Password)
    (told : x ≡ relocked (operation s) card.core.locked card.core.settings.permanent card.password s) where
  pub succeeds_as : (o : Operation) (p : Password) (v : Seen) → x ≡ Some p → o ≡ operation s → v ≡ performed card o p memory
      → v ≡ operated card s memory
  succeeds_as o p v e k h =
      let now = changed (operation s) card.password s in
      let both = cond_some (succeeded card s) now p (sym told ∙ e) in
      h ∙ ap₂ (λ (q : Operation) (left : Password). performed card q left memory) k (sym both.1)
      ∙ ap (λ (b : Bool). turned_with card (cond b now card.password) memory [] (cond b (operate (operation s) card.core) failed)) (sym both.0)
    where
      failed : Turn
      failed = said (with_state (raise card.core LOCK_UNLOCK_FAILED) Prg) (token ACCEPTED)

  none : (b : Bool) (p : Password) → cond b (Some p) None ≡ None → b ≡ false
  none true p e = absurd (none-some p (sym e))
  none false p e = refl

  pub fails_as : (r : Stepped) (d : Core) → x ≡ None → d ≡ with_state (raise card.core LOCK_UNLOCK_FAILED) Prg
      → r ≡ Turns.after card d Accepted → returned r memory [] ≡ operated card s memory
  unfolding affected
  fails_as r d e k h =
      rw (none (succeeded card s) (changed (operation s) card.password s) (sym told ∙ e))
      (Turns.operated r card d (with_state (raise card.core LOCK_UNLOCK_FAILED) Prg) Nothing [] memory memory card.core.marks [] k refl h)
