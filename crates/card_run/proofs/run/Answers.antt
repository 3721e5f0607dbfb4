-- The argument is the address that it means.
use mathlib.Core.Path.{ap, ◌∙◌}
use Rattle.card.specs.Execute.{run_at}
use Rattle.card_run.proofs.run.Goals as goal

pub returns : goal.returns
returns c =
    let a = c.args in
    c.run_at.ensures ∙ ap (run_at a.command a.c a.argument) (c.address_of.ensures a.c.settings)
