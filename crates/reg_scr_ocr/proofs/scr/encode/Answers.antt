-- `encode` of SCR is what the format says of its values.
use mathlib.Core.Path.{refl, ◌∙◌}
use Rattle.codec.specs.Layout.{width}
use Rattle.reg_scr_ocr.specs.Scr.{scr, scr_values}
use Rattle.reg_scr_ocr.proofs.Bare.{emitted_encode}
use Rattle.reg_scr_ocr.proofs.scr.encode.Goals as goal

pub returns : goal.returns
unfolding width
returns c = c.emit.ensures ∙ emitted_encode 8 scr.slots refl _ _ _ (scr_values c.args.c) c.fit.ensures c.word.ensures
