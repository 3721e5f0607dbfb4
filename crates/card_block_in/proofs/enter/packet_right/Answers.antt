-- Judged, or not.
use mathlib.Core.Path.{◌∙◌}
use Rattle.card_block_in.proofs.Blocks as Blocks
use Rattle.card_block_in.proofs.enter.packet_right.Goals as goal

pub returns-else-not-checks : goal.returns-else-not-checks
returns-else-not-checks c = rw c.if-not-checks.false (c.is_ok.ensures.value ∙ Blocks.judged c.args.p.now _ c.requires c.decode.ensures)
