-- `seal` is the CRC7 and a one behind it.
use Rattle.codec.proofs.Check.{sealed}
use Rattle.codec.proofs.seal.Goals as goal

pub returns : goal.returns
returns c = sealed _ c.crc7.result c.crc7.ensures
