-- On to its operation, or a wrong check.
use mathlib.Core.Path.{refl, sym, ap, ◌∙◌}
use mathlib.Core.Bool.{Bool}
use Rattle.card.specs.Data.{lock_into, password_into}
use Rattle.card_call.proofs.Turns as Turns
use Rattle.card_lock_in.specs.Operates.{lock_turned}
use Rattle.card_lock_in.proofs.lock_into.Goals as goal

pub returns-then-right : goal.returns-then-right
unfolding lock_into password_into
returns-then-right c =
    let test = c in
    let args = test.args in
    c.operate.ensures ∙ ap (λ (b : Bool). lock_turned args.card b args.payload.now args.memory.now) (sym test.if-right.true)

pub returns-else-right : goal.returns-else-right
unfolding lock_into password_into
returns-else-right c =
    let test = c in
    let args = test.args in
    Turns.rejected c.answered.result _ _ _ c.with_state.ensures refl _ _ c.answered.ensures
    ∙ ap (λ (b : Bool). lock_turned args.card b args.payload.now args.memory.now) (sym test.if-right.false)
