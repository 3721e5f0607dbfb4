-- Block after block: at the loop's head, sweeping the blocks left of memory as it is gives the whole sweep.
use mathlib.Core.Path.{sym, ap, ◌∙◌}
use Prim.Native.Nat.{◌+◌, ◌*◌}
use borrow.Author.Tests.{le-leb}
use lib.ListN.{length}
use Rattle.card.specs.Settings.{BLOCK}
use Rattle.card.specs.Effects.{swept}
use Rattle.card_effect.proofs.Sweeps.{swept-more, swept-end}
use Rattle.card_effect.proofs.sweep.Goals as goal

pub loop-block-preserved : goal.loop-block-preserved
loop-block-preserved c =
    let at = c.loop-block in
    let a = c.args in (
      at.invariant.0,
      at.invariant.1,
      c.memory-1.given ∙ at.invariant.2,
      ap (swept a.all a.marks.now (at.block + 1) _) c.sweep_block.ensures
          ∙ sym (swept-more a.all a.marks.now at.block _ at.memory c.loop-block-test.true)
          ∙ at.invariant.3,
    )

pub returns : goal.returns
returns c =
    let at = c.loop-block in
    let a = c.args in
    rw (le-leb ((a.first + a.count) * BLOCK) (length a.memory.now) c.if-memory-behind.false)
    (sym (swept-end a.all a.marks.now at.block _ at.memory c.loop-block-test.false) ∙ at.invariant.3)
