-- A digit of the row, in the column of the mode.
use mathlib.Core.Path.{◌≡◌, ◌∙◌}
use mathlib.Core.Bool.{cond}
use Rattle.card_table.proofs.Rows.{digit_by, led_by}
use Rattle.card_table.proofs.lead.Goals.{then-spi, else-spi}
use Rattle.card_table.proofs.lead.Goals as goal

pub returns : goal.returns
returns c =
    let a = c.args in
    let column : c.if-spi.moves ≡ cond a.spi c.row-found.result.spi c.row-found.result.sd =
    elim c.if-spi.branch [ then-spi w ↦ rw w.if-spi.true w.moves-is | else-spi w ↦ rw w.if-spi.false w.moves-is ] in
    c.then_some.ensures ∙ led_by a.command a.spi a.from _ (digit_by a.command a.spi _ a.from _ c.row-found.ensures c.requires column)
