-- `put32` writes a big-endian number, from its last byte to its first.
use Rattle.std.proofs.Common.{length}
use Rattle.codec.proofs.Bytes.{Written}
use Rattle.codec.proofs.put32.Given as goal

abbrev pub invariant-loop-i : goal.invariant-loop-i
invariant-loop-i l = Written (length l.initial.out) l.value l.v l.i l.out
