-- It succeeds, or fails.
use mathlib.Core.Path.{ap, ◌∙◌}
use Rattle.card.specs.declared.State.TheVariants.{Prg}
use Rattle.card.specs.declared.Core.{Core}
use Rattle.card.specs.Record.{with_state}
use Rattle.card_lock_in.proofs.Blocks.{succeeds_as, fails_as}
use Rattle.card_lock_in.proofs.operate.Goals as goal

pub returns-in-Some : goal.returns-in-Some
returns-in-Some c =
    succeeds_as c.args.card c.args.payload.now c.args.memory.now c.relock.result c.relock.ensures _ _ _ c.in-Some.is c.operation.ensures c.perform.ensures

pub returns-in-None : goal.returns-in-None
returns-in-None c =
    fails_as c.args.card c.args.payload.now c.args.memory.now c.relock.result c.relock.ensures c.answered.result _ c.in-None.is
    (c.with_state-failed.ensures ∙ ap (λ (x : Core). with_state x Prg) c.raise.ensures)
    c.answered.ensures
