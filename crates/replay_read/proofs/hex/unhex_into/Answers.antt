-- `unhex_into` reads two digits a turn: at the loop's head what is written and the bytes that are left are all of them.
use Prim.Native.Nat.{◌+◌, ◌*◌}
use native.Mathlib.Omega.{arith}
use Rattle.replay_read.proofs.Digits.{digit_at, pair_at, unhex-more, unhex_all}
use Rattle.replay_read.proofs.hex.unhex_into.Goals as goal

pub value-requires : goal.value-requires
value-requires c =
    let at = c.loop-i.i in
    let pair = pair_at _ _ at c.as_chunks.ensures.front (omega arith) in
    rw pair (digit_at _ (2 * at) c.requires.right (omega arith))

pub value-requires-in-loop-i : goal.value-requires-in-loop-i
value-requires-in-loop-i c =
    let at = c.loop-i.i in
    let pair = pair_at _ _ at c.as_chunks.ensures.front (omega arith) in
    rw pair (digit_at _ (2 * at + 1) c.requires.right (omega arith))

pub loop-i-preserved : goal.loop-i-preserved
loop-i-preserved c =
    let at = c.loop-i in
    let pair = pair_at _ _ at.i c.as_chunks.ensures.front (omega arith) in
    unhex-more c.args.digits.now at.i _ _ (omega arith) c.requires.right
    (rw pair at c.value.ensures) (rw pair at c.value-in-loop-i.ensures) at.out (omega arith) at.invariant

pub returns : goal.returns
returns c =
    unhex_all _ c.loop-i.i (omega arith) _ (omega arith) c.loop-i.invariant
