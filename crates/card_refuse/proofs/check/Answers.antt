-- At the loop's head, the rows that are left give the refusal of all.
use mathlib.Core.Path.{sym, ap, ◌∙◌}
use mathlib.Core.Option.{some}
use Rattle.card.specs.Step.{applies}
use Rattle.codec.specs.Answer.{row_of}
use Rattle.codec.specs.declared.Refusal.{Refusal}
use Rattle.card_refuse.proofs.Walk.{row-applies, row-passes, rows-over}
use Rattle.card_refuse.proofs.check.Goals as goal

pub returns-then-applies : goal.returns-then-applies
returns-then-applies c =
    let at = c.loop-refusal in
    let item = c.refusal-item.is in
    ap (λ (e : Refusal). some (row_of e)) item
    ∙ row-applies _ _ at.refusal-index _ c.loop-refusal-test.true
    (sym (ap (λ (e : Refusal). applies c.args.r (row_of e)) item) ∙ sym c.applies.ensures ∙ c.if-applies.true)
    ∙ at.invariant

pub loop-refusal-preserved : goal.loop-refusal-preserved
loop-refusal-preserved c =
    let at = c.loop-refusal in
    let item = c.refusal-item.is in
    sym
    (row-passes _ _ at.refusal-index _ c.loop-refusal-test.true
    (sym (ap (λ (e : Refusal). applies c.args.r (row_of e)) item) ∙ sym c.applies.ensures ∙ c.if-applies.false))
    ∙ at.invariant

pub returns : goal.returns
returns c =
    let at = c.loop-refusal in
    rows-over _ _ at.refusal-index c.loop-refusal-test.false ∙ at.invariant
