-- An operation that succeeds has room for its new password.
use mathlib.Core.Path.{sym, ◌∙◌}
use Rattle.card_lock.proofs.Fits.{room}
use Rattle.card_lock.proofs.relock.Goals as goal

pub changed-requires : goal.changed-requires
changed-requires c = room _ _ _ _ _ (sym c.succeeds.ensures ∙ c.if-succeeds.true)
