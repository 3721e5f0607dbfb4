-- `last` joins the last slots in their order.
use mathlib.Core.List.{append_assoc, append-nil}
use lib.Dec.{lit≤}
use Rattle.codec.specs.Layout.{write}
use Rattle.codec.proofs.Masks.{join-bits}
use Rattle.reg_cid.proofs.Words.{bits_none, flag_digit}
use Rattle.reg_csd.proofs.last.Goals as goal

pub returns : goal.returns
unfolding write
returns c =
    simp (
      join-bits 21 _ _ _ _ _ c.join.ensures (lit≤ tt),
      join-bits 19 _ _ _ _ _ c.join-b-10.ensures (lit≤ tt),
      join-bits 18 _ _ _ _ _ c.join-b-9.ensures (lit≤ tt),
      join-bits 17 _ _ _ _ _ c.join-b-8.ensures (lit≤ tt),
      join-bits 16 _ _ _ _ _ c.join-b-7.ensures (lit≤ tt),
      join-bits 15 _ _ _ _ _ c.join-b-6.ensures (lit≤ tt),
      join-bits 10 _ _ _ _ _ c.join-b-5.ensures (lit≤ tt),
      join-bits 9 _ _ _ _ _ c.join-b-4.ensures (lit≤ tt),
      join-bits 5 _ _ _ _ _ c.join-b-3.ensures (lit≤ tt),
      join-bits 2 _ _ _ _ _ c.join-b-2.ensures (lit≤ tt),
      join-bits 0 _ _ _ _ _ c.join-b.ensures (lit≤ tt),
      c.from.ensures,
      c.from-2.ensures,
      c.from-3.ensures,
      c.from-4.ensures,
      c.from-5.ensures,
      c.from-6.ensures,
      c.from-7.ensures,
      c.from-8.ensures,
      flag_digit,
      bits_none,
      append_assoc,
      append-nil,
    )
