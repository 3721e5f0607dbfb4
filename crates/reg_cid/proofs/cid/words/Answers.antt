-- `words` joins the slots of CID in their order.
use mathlib.Core.List.{append_assoc, append-nil}
use lib.Dec.{lit≤}
use Rattle.codec.specs.Layout.{write}
use Rattle.codec.proofs.Masks.{join-bits}
use Rattle.reg_cid.proofs.Words.{bits_none}
use Rattle.reg_cid.proofs.cid.words.Goals as goal

pub returns : goal.returns
unfolding write
returns c =
    simp (
      join-bits 44 _ _ _ _ _ c.join-b-4.ensures (lit≤ tt),
      join-bits 40 _ _ _ _ _ c.join-b-3.ensures (lit≤ tt),
      join-bits 8 _ _ _ _ _ c.join-b-2.ensures (lit≤ tt),
      join-bits 0 _ _ _ _ _ c.join-b.ensures (lit≤ tt),
      join-bits 24 _ _ _ _ _ c.join-a-3.ensures (lit≤ tt),
      join-bits 8 _ _ _ _ _ c.join-a-2.ensures (lit≤ tt),
      join-bits 0 _ _ _ _ _ c.join-a.ensures (lit≤ tt),
      c.from.ensures,
      c.from-2.ensures,
      c.from-3.ensures,
      c.from-4.ensures,
      c.from-5.ensures,
      bits_none,
      append_assoc,
      append-nil,
    )
