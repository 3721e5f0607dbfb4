-- `put` writes a big-endian number, from its last byte to its first.
use Rattle.codec.proofs.Bytes.{written_none, written-more}
use Rattle.codec.proofs.put.Goals as goal

pub loop-i-init : goal.loop-i-init
loop-i-init c = written_none c.args.out.now c.args.value

pub loop-i-preserved : goal.loop-i-preserved
loop-i-preserved c = written-more _ _ _ _ _ c.loop-i-test.true c.loop-i.invariant
