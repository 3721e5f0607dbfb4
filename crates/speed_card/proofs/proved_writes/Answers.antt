-- The frames, and the blocks behind them.
use mathlib.Core.Path.{◌∙◌}
use mathlib.Core.List.{[]}
use Rattle.speed_card.specs.Blocks.{again}
use Rattle.speed_card.proofs.Runs.{behind}
use Rattle.speed_card.proofs.proved_writes.Goals as goal

pub shape_of-memory : goal.shape_of-memory
shape_of-memory c = c.memory-2-1.given ∙ c.memory-1.given

pub returns : goal.returns
returns c =
    let g = c in
    let o = g in
    behind (again _) _ [] o.open-card.ensures g.give_many.ensures
