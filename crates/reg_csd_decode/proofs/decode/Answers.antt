-- `decode` of CSD is what the format says of its bytes.
use mathlib.Core.Path.{refl, ap, ◌∙◌}
use borrow.Author.Rules.{rules}
use Rattle.codec.specs.Layout.{width, judged}
use Rattle.codec.specs.Answer.{done}
use Rattle.reg_csd.specs.Csd.{csd}
use Rattle.reg_cid.proofs.Sixteen.{decode_refused, decode_fields}
use Rattle.reg_csd_decode.proofs.decode.Goals as goal

pub returns-in_err-judge : goal.returns-in_err-judge
unfolding width judged
returns-in_err-judge c =
    let h = decode_refused csd.slots refl (λ _. refl) _ c.in_err-judge.field-0.0 c.in_err-judge.ensures in
    search rules

pub returns : goal.returns
unfolding width judged
returns c = ap done c.fields.ensures ∙ decode_fields csd.slots refl (λ _. refl) _ _ _ c.in_ok-judge.ensures c.from_bytes.ensures.first c.from_bytes.ensures.rest
