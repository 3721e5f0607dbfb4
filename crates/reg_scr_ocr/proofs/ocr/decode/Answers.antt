-- `decode` of OCR is what the format says of its bytes.
use mathlib.Core.Path.{refl, ap, ◌∙◌}
use lib.Dec.{lit≤}
use Rattle.codec.specs.Answer.{done}
use Rattle.codec.specs.Layout.{width, judged}
use Rattle.codec.proofs.Words.{within}
use Rattle.reg_scr_ocr.specs.Ocr.{ocr}
use Rattle.reg_cid.proofs.Words.{flag-part, cons}
use Rattle.reg_scr_ocr.proofs.Bare.{word_fields}
use Rattle.reg_scr_ocr.proofs.ocr.decode.Goals as goal

pub returns : goal.returns
unfolding width judged within
returns c =
    let w = c.in_ok-w.w in
    ap done
    (cons _ _ _ _ (flag-part w 31 _ c.field.ensures)
    (cons _ _ _ _ (flag-part w 30 _ c.field-2.ensures)
    (cons _ _ _ _ c.field-3.ensures
    refl)))
    ∙ word_fields 4 ocr.slots refl (λ _. refl) _ w (lit≤ tt) c.in_ok-w.ensures
