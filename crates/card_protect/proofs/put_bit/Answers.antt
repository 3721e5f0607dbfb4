-- A byte with one bit made 1 or 0: it stays, or the bit is flipped.
use mathlib.Core.Path.{sym, ap, ◌∙◌}
use mathlib.Core.Bool.{Bool, not}
use Rattle.card.specs.Protect.{put_bit}
use Rattle.card_protect.proofs.Marks.{put-flipped, beq-other}
use Rattle.card_protect.proofs.put_bit.Goals as goal

pub returns-else-bit-value : goal.returns-else-bit-value
returns-else-bit-value c =
    let a = c.args in
    put-flipped a.k a.byte c.requires
    ∙ ap (λ (v : Bool). put_bit v a.k a.byte) (sym (beq-other c.bit.result a.value c.if-bit-value.false ∙ ap not c.bit.ensures))
