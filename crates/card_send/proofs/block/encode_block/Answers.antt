-- By the mode.
use mathlib.Core.Path.{◌∙◌}
use Rattle.card_send.proofs.Led.{bare}
use Rattle.card_send.proofs.block.encode_block.Goals as goal

pub returns : goal.returns
returns c = rw c.if-spi.false (c.encode.ensures ∙ bare _ _)
