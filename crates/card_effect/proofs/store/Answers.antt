-- Where memory has room, the part of it that is lent becomes the payload.
use Prim.Native.Nat.{◌+◌}
use borrow.Author.Tests.{le-leb, lt-leb}
use lib.ListN.{length}
use Rattle.card_effect.proofs.Sweeps.{stored-part}
use Rattle.card_effect.proofs.store.Goals as goal

pub returns-then-memory-end : goal.returns-then-memory-end
returns-then-memory-end c = simp (lt-leb _ _ c.if-memory-end.true)

pub returns : goal.returns
returns c =
    let a = c.args in
    rw (le-leb (a.address + length a.payload.now) (length a.memory.now) c.if-memory-end.false)
    (stored-part a.memory.now a.payload.now _ a.address c.if-memory-end.false c.copy.ensures)
