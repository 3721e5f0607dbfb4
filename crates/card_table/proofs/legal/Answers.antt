-- A command is allowed where its row has a move.
use mathlib.Core.Path.{◌∙◌}
use Rattle.card_table.proofs.Rows.{legal_by}
use Rattle.card_table.proofs.legal.Goals as goal

pub returns : goal.returns
returns c =
    let a = c.args in
    c.is_some.ensures ∙ legal_by a.command a.bus _ _ _ c.in_spi-spi.ensures c.number_in.ensures.0 c.lead.ensures
