-- `encode` of CID is what the format says of its values.
use mathlib.Core.Path.{◌∙◌}
use Rattle.reg_cid.specs.Cid.{cid, cid_values}
use Rattle.reg_cid.proofs.Sixteen.{emitted_encode}
use Rattle.reg_cid.proofs.cid.encode.Goals as goal

pub returns : goal.returns
returns c = c.emit.ensures ∙ emitted_encode _ _ _ _ cid.slots (cid_values c.args.c) c.fit.ensures c.words.ensures
