-- `encode_r3` sends 3Fh, the OCR and eight ones.
use mathlib.Core.Path.{sym, ◌∙◌}
use Rattle.wire_response.proofs.Shorts.{encode-ones}
use Rattle.wire_response.proofs.encode_r3.Goals as goal

pub returns : goal.returns
returns c =
    let start = c in
    c.encode.ensures ∙ sym (encode-ones start.args.ocr start.args.out.now start.ranges.ocr.fits)
