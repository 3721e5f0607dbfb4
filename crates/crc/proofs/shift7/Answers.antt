-- `shift7` is a turn of the register one place up in its byte: the bit that leaves it picks the branch.
use Rattle.crc.proofs.Words.{shift_one, shift_zero, top_set, top-clear, poly7-up}
use Rattle.crc.proofs.shift7.Goals as goal

pub returns-then-r-ne0 : goal.returns-then-r-ne0
returns-then-r-ne0 c = rw (← poly7-up) (shift_one 7 18 c.args.r (top_set 7 c.args.r c.if-r-ne0.true))

pub returns-else-r-ne0 : goal.returns-else-r-ne0
returns-else-r-ne0 c = rw (← poly7-up) (shift_zero 7 18 c.args.r (top-clear 7 c.args.r c.if-r-ne0.false))
