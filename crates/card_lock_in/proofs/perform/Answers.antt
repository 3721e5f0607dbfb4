-- The effect, the record and the password.
use mathlib.Core.Path.{ap, ◌∙◌}
use Rattle.card.specs.declared.State.TheVariants.{Prg}
use Rattle.card.specs.declared.Core.{Core}
use Rattle.card.specs.Record.{with_state}
use Rattle.card_lock_in.proofs.Blocks.{performs}
use Rattle.card_lock_in.proofs.perform.Goals as goal

pub returns : goal.returns
returns c =
    let a = c in
    let f = a in
    let w = f in
    let args = w.args in
    performs args.card args.o c.answered_with.result _ _ _ _ args.memory.now _ _ f.effect_of.ensures w.whole-all.ensures a.apply.ensures
    (c.with_state-next.ensures ∙ ap (λ (x : Core). with_state x Prg) c.acted.ensures)
    c.with_marks.ensures
    c.answered_with.ensures
