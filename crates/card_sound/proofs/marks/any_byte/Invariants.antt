-- At the loop's head, what was found, or something in the bytes that are left.
use mathlib.Core.Path.{◌≡◌}
use mathlib.Core.Bool.{◌||◌}
use lib.ListN.{drop}
use Rattle.card.specs.Soundness.{any_byte}
use Rattle.card_sound.proofs.marks.any_byte.Given as goal

abbrev pub invariant-loop-byte : goal.invariant-loop-byte
invariant-loop-byte l = any_byte l.marks ≡ l.found || any_byte (drop l.byte-index l.marks)
