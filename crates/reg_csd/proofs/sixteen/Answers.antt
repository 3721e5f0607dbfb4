-- The bytes of the two words.
use mathlib.Core.Path.{◌∙◌}
use Rattle.reg_csd.specs.Csd.{csd}
use Rattle.reg_cid.proofs.Sixteen.{sixteen-image}
use Rattle.reg_csd.proofs.sixteen.Goals as goal

pub returns : goal.returns
returns c = c.sixteen.ensures ∙ sixteen-image csd.slots _ _ _ c.words.ensures
