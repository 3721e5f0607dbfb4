-- Both tests, or the first alone where it fails.
use mathlib.Core.Path.{◌≡◌, sym, ap, ◌∙◌}
use mathlib.Core.Bool.{Bool, not, ◌&&◌}
use Rattle.reg_csd.specs.Csd.{csd_values}
use Rattle.reg_csd.specs.declared.Csd.{Csd}
use Rattle.card.specs.Soundness.{equal}
use Rattle.card_sound.proofs.bad_settings.Goals.{then-allowed, else-allowed}
use Rattle.card_sound.proofs.bad_settings.Goals as goal

first : (a b : Bool) {r c : Bool} → a ≡ c → r ≡ (c && b) → r ≡ (a && b)
first a b h e = e ∙ sym (ap (λ (t : Bool). t && b) h)

pub returns : goal.returns
returns c =
    let k = c.args.c in
    ap not
    (elim c.if-allowed.branch [
      | then-allowed w ↦
          first _ _ (sym c.allowed.ensures ∙ w.if-allowed.true)
          (w.result-is ∙ w.equal.ensures ∙ ap (λ (x : Csd). equal (csd_values k.csd) (csd_values x)) w.csd_of.ensures)
      | else-allowed w ↦ first _ _ (sym c.allowed.ensures ∙ w.if-allowed.false) (w.result-is ∙ w.if-allowed.false)
    ])
