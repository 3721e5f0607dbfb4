-- `bytes_line` writes the tag, the newline, and the digits between them.
use native.Mathlib.Omega.{arith}
use lib.ListN.{length-append, length-take, length-drop, length-set}
use Rattle.replay_write.proofs.Emits.{no-bytes_line, bytes-line}
use Rattle.replay_write.proofs.text.bytes_line.Goals as goal

pub returns-then-text-lt5 : goal.returns-then-text-lt5
returns-then-text-lt5 c = let a = c.args in no-bytes_line a.kind a.bytes.now a.text.now (omega arith)

pub returns-then-text-bytes : goal.returns-then-text-bytes
returns-then-text-bytes c = let a = c.args in no-bytes_line a.kind a.bytes.now a.text.now (omega arith)

pub returns : goal.returns
returns c =
    let a = c.args in
    let copied = c in
    bytes-line a.kind a.bytes.now a.text.now _ _ _ (omega arith) copied.tag.ensures copied.copy.ensures c.hex_into.ensures
