-- `word32` reads a big-endian number: at the loop's head it has the bytes that were passed.
use Rattle.codec.proofs.Bytes.{passed_none, passed-more}
use Rattle.codec.proofs.word32.Goals as goal

pub loop-byte-init : goal.loop-byte-init
loop-byte-init c = passed_none 24 c.args.s.now

pub loop-byte-preserved : goal.loop-byte-preserved
loop-byte-preserved c =
    let at = c.loop-byte in
    rw c.from.ensures (passed-more 24 c.args.s.now at.r at.byte-index c.loop-byte-test.true (c.type_inv.s at.byte-index).fits at.invariant)
