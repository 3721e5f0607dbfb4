-- `table` hands out a table that has the rule: the test of its 256 numbers is computed.
use mathlib.Core.Path.{refl}
use mathlib.Core.Bool.{xor}
use Rattle.crc.specs.Bits.{bits, number}
use Rattle.crc.specs.Crc.{◌⊕◌, shift, turns, poly16}
use Rattle.crc.specs.Table.{entry, in_place}
use Rattle.crc.proofs.Table.{in_place_tabulates}
use Rattle.crc.proofs.table16.table.Goals as goal

pub returns : goal.returns
unfolding in_place entry turns shift ◌⊕◌ xor number bits poly16
returns c = in_place_tabulates poly16 _ refl tt
