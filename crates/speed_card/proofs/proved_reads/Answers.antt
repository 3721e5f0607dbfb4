-- The frames, and the blocks behind them.
use Rattle.card.specs.Step.{take_block}
use Rattle.speed_card.proofs.Runs.{behind}
use Rattle.speed_card.proofs.proved_reads.Goals as goal

pub returns : goal.returns
returns c =
    let t = c in
    let o = t in
    behind take_block _ _ o.open-card.ensures t.take_many.ensures
