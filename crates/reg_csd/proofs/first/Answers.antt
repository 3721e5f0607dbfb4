-- `first` joins the slots of the first word in their order.
use mathlib.Core.List.{append_assoc, append-nil}
use lib.Dec.{lit≤}
use Rattle.codec.specs.Layout.{write}
use Rattle.codec.proofs.Masks.{join-bits}
use Rattle.reg_cid.proofs.Words.{bits_none, flag_digit}
use Rattle.reg_csd.proofs.first.Goals as goal

pub returns : goal.returns
unfolding write
returns c =
    simp (
      join-bits 54 _ _ _ _ _ c.join.ensures (lit≤ tt),
      join-bits 52 _ _ _ _ _ c.join-a-12.ensures (lit≤ tt),
      join-bits 51 _ _ _ _ _ c.join-a-11.ensures (lit≤ tt),
      join-bits 50 _ _ _ _ _ c.join-a-10.ensures (lit≤ tt),
      join-bits 49 _ _ _ _ _ c.join-a-9.ensures (lit≤ tt),
      join-bits 48 _ _ _ _ _ c.join-a-8.ensures (lit≤ tt),
      join-bits 44 _ _ _ _ _ c.join-a-7.ensures (lit≤ tt),
      join-bits 32 _ _ _ _ _ c.join-a-6.ensures (lit≤ tt),
      join-bits 24 _ _ _ _ _ c.join-a-5.ensures (lit≤ tt),
      join-bits 16 _ _ _ _ _ c.join-a-4.ensures (lit≤ tt),
      join-bits 8 _ _ _ _ _ c.join-a-3.ensures (lit≤ tt),
      join-bits 2 _ _ _ _ _ c.join-a-2.ensures (lit≤ tt),
      join-bits 0 _ _ _ _ _ c.join-a.ensures (lit≤ tt),
      c.from.ensures,
      c.from-2.ensures,
      c.from-3.ensures,
      c.from-4.ensures,
      c.from-5.ensures,
      c.from-6.ensures,
      c.from-7.ensures,
      c.from-8.ensures,
      c.from-9.ensures,
      c.from-10.ensures,
      c.from-11.ensures,
      flag_digit,
      bits_none,
      append_assoc,
      append-nil,
    )
