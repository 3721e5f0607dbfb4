-- Byte by byte: at the loop's head, the bytes that are left lead where all of them lead.
use borrow.Author.Rules.{rules}
use Rattle.replay_session.proofs.Heard.{ends-line, keeps_byte, next-byte, all-heard}
use Rattle.replay_session.proofs.by.hear_all_by.Goals as goal

pub loop-byte-preserved-then-byte-eq10 : goal.loop-byte-preserved-then-byte-eq10
loop-byte-preserved-then-byte-eq10 g c =
    next-byte _ _ _ _ _ c.loop-byte.byte-index c.loop-byte-test.true (ends-line _ _ _ _ c.if-byte-eq10.true c.end_line_by-now.ensures) c.loop-byte.invariant

pub loop-byte-preserved : goal.loop-byte-preserved
loop-byte-preserved g c =
    let at = c.loop-byte in
    next-byte _ _ _ _ _ at.byte-index c.loop-byte-test.true (
    keeps_byte _ at.now at.memory at.line at.text c.keep.new.line c.keep.result _ c.if-byte-eq10.false c.keep.ensures
    ) at.invariant

pub returns : goal.returns
returns g c = all-heard _ _ _ _ c.loop-byte.byte-index (search rules) c.loop-byte.invariant
