-- `join` puts bits behind bits.
use Rattle.codec.proofs.Masks.{join-within, join-whole}
use Rattle.codec.proofs.join.Goals as goal

pub returns-then-width-ge64 : goal.returns-then-width-ge64
returns-then-width-ge64 c =
    join-whole 64 c.args.width c.args.high c.args.low
    c.ranges.low.fits c.if-width-ge64.true

pub returns : goal.returns
returns c = join-within 64 c.args.width c.args.high c.args.low c.if-width-ge64.false
