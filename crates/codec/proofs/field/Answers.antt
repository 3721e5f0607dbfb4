-- `field` takes bits out of a word.
use Rattle.codec.proofs.Masks.{masked, shifted-out, unmasked}
use Rattle.codec.proofs.field.Goals as goal

pub returns-then-low-ge64 : goal.returns-then-low-ge64
returns-then-low-ge64 c = shifted-out 64 _ _ _ c.ranges.word.fits c.if-low-ge64.true

pub returns-then-width-ge64 : goal.returns-then-width-ge64
returns-then-width-ge64 c = unmasked 64 _ _ _ c.ranges.word.fits c.if-width-ge64.true

pub returns : goal.returns
returns c = masked 64 _ c.args.width c.if-width-ge64.false
