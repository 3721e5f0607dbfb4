-- At the loop's head, whether all were digits so far, and the characters that are left.
use mathlib.Core.Path.{◌≡◌}
use mathlib.Core.Bool.{◌&&◌}
use lib.ListN.{drop}
use Rattle.replay_read.specs.Hex.{all_hex}
use Rattle.replay_read.proofs.hex.all_hex.Given as goal

abbrev pub invariant-loop-digit : goal.invariant-loop-digit
invariant-loop-digit l = all_hex l.digits ≡ l.right && all_hex (drop l.digit-index l.digits)
