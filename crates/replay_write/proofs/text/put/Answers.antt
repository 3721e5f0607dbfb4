-- `put` copies a line that fits.
use mathlib.Core.Path.{refl}
use borrow.Author.Rules.{rules}
use Rattle.replay_write.proofs.Emits.{no_room, room}
use Rattle.replay_write.proofs.text.put.Goals as goal

pub returns-then-text-line : goal.returns-then-text-line
returns-then-text-line c = no_room _ _ c.if-text-line.true

pub returns : goal.returns
returns c = room _ _ _ _ (search rules) refl (rw c.copy_from_slice.ensures.after refl)
