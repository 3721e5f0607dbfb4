-- `marked_from` looks at the group's byte, then at those behind it.
use mathlib.Core.Path.{ap, ◌∙◌}
use Prim.Native.Nat.{◌+◌, ◌-◌, ◌/◌}
use native.Mathlib.Omega.{arith}
use borrow.Author.Rules.{rules}
use lib.ListN.{length, drop, length-drop}
use lib.Seq.{take_all}
use Rattle.card.specs.Soundness.{any_byte}
use Rattle.card_sound.proofs.Walks.{marked-outside, marked-here, marked_later}
use Rattle.card_sound.proofs.marks.marked_from.Goals as goal

pub returns-then-at-marks : goal.returns-then-at-marks
returns-then-at-marks c = marked-outside c.args.marks.now c.args.group (search rules)

pub returns-then-marks-at-ne0 : goal.returns-then-marks-at-ne0
returns-then-marks-at-ne0 c = marked-here c.args.marks.now c.args.group c.if-marks-at-ne0.true

pub returns-else-marks-at-ne0 : goal.returns-else-marks-at-ne0
returns-else-marks-at-ne0 c =
    let s = c.args.marks.now in
    let n = c.args.group / 8 + 1 in
    marked_later s c.args.group _ c.if-marks-at-ne0.false
    (c.any_byte.ensures ∙ ap any_byte (take_all (length s - n) (drop n s) (omega (arith, length-drop n s))))
