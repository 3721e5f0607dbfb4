-- `turn` is eight turns of the register: the law of the table at sixteen places.
use mathlib.Core.Path.{refl}
use borrow.Author.Rules.{rules}
use Rattle.crc.specs.Bits.{bits}
use Rattle.crc.specs.Crc.{poly16}
use Rattle.crc.proofs.Table.{turns_by_table}
use Rattle.crc.proofs.table16.turn.Goals as goal

pub returns : goal.returns
unfolding poly16 bits
returns c = rw c.from.ensures (turns_by_table 8 poly16 c.args.t.now refl c.requires c.args.r (search rules))
