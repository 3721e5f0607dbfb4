-- The block count by the two fields of a CSD, which have 12 and 3 bits.
use Rattle.std.specs.Prelude.{cond, ◌&&◌, ℕ, leb}
use Rattle.reg_size.specs.Size.{blocks}

unfoldable pub block_count : ℕ → ℕ → ℕ
block_count size mult = cond (leb size 4095 && leb mult 7) (blocks size mult) 0
