-- The record of a power-up, the password as it is stored, and COM_CRC_ERROR clear.
use mathlib.Core.Path.{ap, ap₂, ◌∙◌}
use mathlib.Core.Bool.{false}
use Rattle.card.specs.declared.Core.{Core}
use Rattle.card.specs.declared.Password.{Password}
use Rattle.card.specs.declared.Card.{Card}
use Rattle.card.specs.Lock.{is_set}
use Rattle.card.specs.Step.{fresh, line, start}
use Rattle.card_power.proofs.start.Goals as goal

pub returns : goal.returns
unfolding start
returns c =
    let kept = c.kept-stored.ensures in
    ap₂ {C = Card} (λ (x : Core) (p : Password). record { core = x; password = p; line = line false })
    (c.fresh.ensures ∙ ap (fresh c.args.settings) (c.is_set.ensures ∙ ap is_set kept)) kept
