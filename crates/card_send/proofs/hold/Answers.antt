-- The bit, and the held transfer.
use mathlib.Core.Path.{refl, ap, ap₂, ◌∙◌}
use Rattle.card.specs.declared.State.TheVariants.{Data}
use Rattle.card.specs.Record.{with_state}
use Rattle.card_call.proofs.Turns.{silent}
use Rattle.card_send.proofs.hold.Goals as goal

pub returns : goal.returns
returns c memory out =
    let raised = c in
    silent c.answered.result raised.args.card _ _
    (c.with_state.ensures ∙ ap₂ with_state raised.raise.ensures (ap Data c.from.ensures))
    refl memory out c.answered.ensures
