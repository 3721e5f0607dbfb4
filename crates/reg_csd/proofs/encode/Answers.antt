-- `encode` of CSD is what the format says of its values.
use mathlib.Core.Path.{◌∙◌}
use Rattle.reg_csd.specs.Csd.{csd, csd_values}
use Rattle.reg_cid.proofs.Sixteen.{emitted_encode}
use Rattle.reg_csd.proofs.encode.Goals as goal

pub returns : goal.returns
returns c = c.emit.ensures ∙ emitted_encode _ _ _ _ csd.slots (csd_values c.args.c) c.fit.ensures c.words.ensures
