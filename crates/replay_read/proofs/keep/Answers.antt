-- `keep` stores the byte where the buffer has room.
use borrow.Author.Tests.{le-ltb, lt-ltb}
use Rattle.replay_read.specs.Keep.{keep_byte}
use Rattle.replay_read.proofs.keep.Goals as goal

pub returns-then-count-line : goal.returns-then-count-line
unfolding keep_byte
returns-then-count-line c = simp (lt-ltb _ _ c.if-count-line.true)

pub returns : goal.returns
unfolding keep_byte
returns c = simp (le-ltb _ _ c.if-count-line.false)
