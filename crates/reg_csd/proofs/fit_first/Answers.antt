-- `fit_first` tests the fields that are narrower than their types.
use mathlib.Core.Bool.{and-true}
use native.Mathlib.Omega.{arith}
use borrow.Author.Tests.{lt-ltb}
use Rattle.crc.proofs.Bits.{digit_lt}
use Rattle.codec.specs.Layout.{fits}
use Rattle.reg_csd.proofs.fit_first.Goals as goal

pub returns-then-c-lt16 : goal.returns-then-c-lt16
unfolding fits
returns-then-c-lt16 c =
    let (structure, ccc, read_bl_len) = c.if-c-lt16.true in
    let s = c.args.c in
    simp (
      lt-ltb _ 4 structure,
      lt-ltb s.taac 256 (omega arith),
      lt-ltb s.nsac 256 (omega arith),
      lt-ltb s.tran_speed 256 (omega arith),
      lt-ltb _ 4096 ccc,
      lt-ltb _ 16 read_bl_len,
      lt-ltb _ 2 (digit_lt s.read_bl_partial),
      lt-ltb _ 2 (digit_lt s.write_blk_misalign),
      lt-ltb _ 2 (digit_lt s.read_blk_misalign),
      lt-ltb _ 2 (digit_lt s.dsr_imp),
      and-true,
    )
