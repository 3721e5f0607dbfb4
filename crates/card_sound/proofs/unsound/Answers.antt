-- `unsound` makes the first five tests, then the others.
use mathlib.Core.Path.{◌∙◌}
use Rattle.card.specs.Soundness.{unsound, unsound_tests}
use Rattle.card_sound.proofs.Tests.{first_holds, first-fails}
use Rattle.card_sound.proofs.unsound.Goals as goal

pub returns-then-unsound_first : goal.returns-then-unsound_first
unfolding unsound
returns-then-unsound_first c =
    c.if-unsound_first.true ∙ first_holds 5 (unsound_tests c.args.c) _ c.unsound_first.ensures c.if-unsound_first.true

pub returns-else-unsound_first : goal.returns-else-unsound_first
unfolding unsound
returns-else-unsound_first c = first-fails 5 (unsound_tests c.args.c) _ c.unsound_first.ensures _ c.if-unsound_first.false c.unsound_rest.ensures
