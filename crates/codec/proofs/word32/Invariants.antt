-- `word32` reads a big-endian number: at the loop's head it has the bytes that were passed.
use Rattle.codec.proofs.Bytes.{Passed}
use Rattle.codec.proofs.word32.Given as goal

abbrev pub invariant-loop-byte : goal.invariant-loop-byte
invariant-loop-byte l = Passed 24 l.s l.r l.byte-index
