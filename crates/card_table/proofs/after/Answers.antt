-- The state that the row leads to, or the same.
use mathlib.Core.Path.{ap, ◌∙◌}
use Prim.Native.Nat.{ℕ}
use Rattle.card.specs.State.{arrive}
use Rattle.card_table.proofs.Rows.{after_by}
use Rattle.card_table.proofs.after.Goals as goal

pub returns : goal.returns
returns c =
    let a = c.args in
    c.arrive.ensures ∙ ap (λ (n : ℕ). arrive n a.t) c.unwrap_or.ensures
    ∙ after_by a.command a.bus _ _ _ c.in_spi-spi.ensures c.number_in-from.ensures.0 c.lead.ensures a.t
