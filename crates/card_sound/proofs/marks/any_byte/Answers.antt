-- At the loop's head, what was found, or something in the bytes that are left.
use mathlib.Core.Path.{sym, ◌∙◌}
use Rattle.card_sound.proofs.Walks.{any_byte-next, any_byte-end}
use borrow.Author.Rules.{rules}
use Rattle.card_sound.proofs.marks.any_byte.Goals as goal

pub loop-byte-preserved : goal.loop-byte-preserved
loop-byte-preserved c = c.loop-byte.invariant ∙ any_byte-next c.args.marks.now c.loop-byte.byte-index c.loop-byte.found (search rules)

pub returns : goal.returns
returns c = sym (c.loop-byte.invariant ∙ any_byte-end c.args.marks.now c.loop-byte.byte-index c.loop-byte.found (search rules))
