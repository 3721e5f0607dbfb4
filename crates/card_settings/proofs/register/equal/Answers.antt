-- The derived equality holds where every field is equal; a flag's value is its digit.
use mathlib.Core.Path.{◌≡◌, refl, ◌∙◌}
use mathlib.Core.Bool.{Bool, true, false, beq, and-true}
use lib.Dec.{eqb}
use Rattle.crc.specs.Bits.{digit}
use Rattle.card.specs.Soundness.{equal}
use Rattle.card_settings.proofs.register.equal.Goals as goal

same_digit : (a b : Bool) → eqb (digit a) (digit b) ≡ beq a b
same_digit true true = refl
same_digit true false = refl
same_digit false true = refl
same_digit false false = refl

pub returns : goal.returns
unfolding equal
returns c = c.eq.ensures ∙ simp (same_digit, and-true)
