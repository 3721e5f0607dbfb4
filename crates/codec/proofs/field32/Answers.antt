-- `field32` takes bits out of a word.
use Rattle.codec.proofs.Masks.{masked, shifted-out, unmasked}
use Rattle.codec.proofs.field32.Goals as goal

pub returns-then-low-ge32 : goal.returns-then-low-ge32
returns-then-low-ge32 c = shifted-out 32 _ _ _ c.ranges.word.fits c.if-low-ge32.true

pub returns-then-width-ge32 : goal.returns-then-width-ge32
returns-then-width-ge32 c = unmasked 32 _ _ _ c.ranges.word.fits c.if-width-ge32.true

pub returns : goal.returns
returns c = masked 32 _ c.args.width c.if-width-ge32.false
