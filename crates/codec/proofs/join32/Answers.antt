-- `join32` puts bits behind bits.
use Rattle.codec.proofs.Masks.{join-within, join-whole}
use Rattle.codec.proofs.join32.Goals as goal

pub returns-then-width-ge32 : goal.returns-then-width-ge32
returns-then-width-ge32 c =
    join-whole 32 c.args.width c.args.high c.args.low
    c.ranges.low.fits c.if-width-ge32.true

pub returns : goal.returns
returns c = join-within 32 c.args.width c.args.high c.args.low c.if-width-ge32.false
