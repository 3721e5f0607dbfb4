-- The bytes of the two words.
use mathlib.Core.Path.{◌∙◌}
use Rattle.reg_cid.specs.Cid.{cid}
use Rattle.reg_cid.proofs.Sixteen.{sixteen-image}
use Rattle.reg_cid.proofs.cid.sixteen.Goals as goal

pub returns : goal.returns
returns c = c.sixteen.ensures ∙ sixteen-image cid.slots _ _ _ c.words.ensures
