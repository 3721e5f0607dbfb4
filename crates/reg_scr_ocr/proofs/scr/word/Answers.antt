-- `word` joins the slots of SCR in their order.
use mathlib.Core.List.{append_assoc, append-nil}
use lib.Dec.{lit≤}
use Rattle.codec.specs.Layout.{write}
use Rattle.codec.proofs.Masks.{join-bits}
use Rattle.reg_cid.proofs.Words.{bits_none, flag_digit}
use Rattle.reg_scr_ocr.proofs.scr.word.Goals as goal

pub returns : goal.returns
unfolding write
returns c =
    simp (
      join-bits 16 _ _ _ _ _ c.join.ensures (lit≤ tt),
      join-bits 12 _ _ _ _ _ c.join-w-5.ensures (lit≤ tt),
      join-bits 9 _ _ _ _ _ c.join-w-4.ensures (lit≤ tt),
      join-bits 8 _ _ _ _ _ c.join-w-3.ensures (lit≤ tt),
      join-bits 4 _ _ _ _ _ c.join-w-2.ensures (lit≤ tt),
      join-bits 0 _ _ _ _ _ c.join-w.ensures (lit≤ tt),
      c.from.ensures,
      c.from-2.ensures,
      c.from-3.ensures,
      c.from-4.ensures,
      c.from-5.ensures,
      flag_digit,
      bits_none,
      append_assoc,
      append-nil,
    )
