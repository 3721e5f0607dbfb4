-- The record, the message and the effect.
use mathlib.Core.Path.{ap, ap₂, ◌∙◌}
use mathlib.Core.Bool.{Bool}
use Rattle.card.specs.declared.Core.{Core}
use Rattle.card.specs.Record.{with_app}
use Rattle.card.specs.Status.{status}
use Rattle.card_finish.proofs.Finished.{finished}
use Rattle.card_finish.proofs.finish.Goals as goal

pub returns : goal.returns
returns c =
    let s = c in
    let a = s.args in
    finished a.command a.state a.done _ _ _
    (c.with_app.ensures ∙ ap₂ (λ (x : Core) (b : Bool). with_app x b) c.cleared.ensures c.sets_app.ensures)
    s.index.ensures
    (s.status.ensures ∙ ap (status a.done.core.kept a.done.core.locked a.state) s.shows_app.ensures)
