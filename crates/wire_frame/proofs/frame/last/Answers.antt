-- `last` is CRC7 and end bit, or eight ones.
use Rattle.wire_frame.specs.Frame.{closing}
use Rattle.wire_frame.proofs.frame.last.Goals as goal

pub returns-then-checked : goal.returns-then-checked
unfolding closing
returns-then-checked c = rw c.if-checked.true c.seal.ensures

pub returns : goal.returns
unfolding closing
returns c = rw c.if-checked.false
