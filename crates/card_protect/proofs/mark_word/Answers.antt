-- The marks are read from the highest group down: at the loop's head, the bits read and those left are all.
use mathlib.Core.Path.{refl}
use native.Mathlib.Omega.{arith}
use Rattle.crc.specs.Bits.{bits}
use Rattle.card_protect.proofs.Words.{word_more, word_all}
use Rattle.card_protect.proofs.mark_word.Goals as goal

pub loop-k-init : goal.loop-k-init
unfolding bits
loop-k-init c = (omega arith, c.groups-count.ensures, c.group_of-group.ensures, refl)

pub loop-k-preserved : goal.loop-k-preserved
loop-k-preserved c =
    let at = c.loop-k in (
      omega arith,
      at.invariant.1,
      at.invariant.2,
      word_more _ _ _ at.k at.word _ _ _ c.loop-k-test.true at.invariant.0 c.append-word.ensures c.shown.ensures at.invariant.3,
    )

pub returns : goal.returns
returns c =
    let at = c.loop-k in
    rw (at.invariant.1, at.invariant.2) at (word_all _ _ _ at.k _ _ c.loop-k-test.false at.invariant.3)
