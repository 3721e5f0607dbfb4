-- `encode` of OCR is what the format says of its values.
use mathlib.Core.Path.{refl, ◌∙◌}
use Rattle.codec.specs.Layout.{width}
use Rattle.reg_scr_ocr.specs.Ocr.{ocr, ocr_values}
use Rattle.reg_scr_ocr.proofs.Bare.{emitted_encode}
use Rattle.reg_scr_ocr.proofs.ocr.encode.Goals as goal

pub returns : goal.returns
unfolding width
returns c = c.emit.ensures ∙ emitted_encode 4 ocr.slots refl _ _ _ (ocr_values c.args.c) c.fit.ensures c.word.ensures
