-- `decode` of SCR is what the format says of its bytes.
use mathlib.Core.Path.{refl, ap, ◌∙◌}
use lib.Dec.{lit≤}
use Rattle.codec.specs.Answer.{done}
use Rattle.codec.specs.Layout.{width, judged}
use Rattle.codec.proofs.Words.{within}
use Rattle.reg_scr_ocr.specs.Scr.{scr}
use Rattle.reg_cid.proofs.Words.{flag-part, cons}
use Rattle.reg_scr_ocr.proofs.Bare.{word_fields}
use Rattle.reg_scr_ocr.proofs.scr.decode.Goals as goal

pub returns : goal.returns
unfolding width judged within
returns c =
    let w = c.in_ok-w.w in
    ap done
    (cons _ _ _ _ c.field.ensures
    (cons _ _ _ _ c.field-2.ensures
    (cons _ _ _ _ (flag-part w 55 _ c.field-3.ensures)
    (cons _ _ _ _ c.field-4.ensures
    (cons _ _ _ _ c.field-5.ensures
    refl)))))
    ∙ word_fields 8 scr.slots refl (λ _. refl) _ w (lit≤ tt) c.in_ok-w.ensures
