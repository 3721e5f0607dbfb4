-- 42's transfer, or one of 24 or 25.
use Rattle.card.specs.Data.{block_into, password_into}
use Rattle.card_block_in.proofs.Gives.{written_as}
use Rattle.card_block_in.proofs.enter.write_sink.Goals.{in-Single, in-Multiple}
use Rattle.card_block_in.proofs.enter.write_sink.Goals as goal

pub returns-in-LockUnlock : goal.returns-in-LockUnlock
unfolding block_into password_into
returns-in-LockUnlock c = rw c.in-LockUnlock.is c.lock_into.ensures

pub returns : goal.returns
returns c =
    let a = c.args in
    elim c.match-sink.branch [
      | in-Single w ↦ written_as a.card a.right a.payload.now a.memory.now _ w.t-is w.in-Single.is c.write_into.ensures
      | in-Multiple w ↦ written_as a.card a.right a.payload.now a.memory.now _ w.t-is w.in-Multiple.is c.write_into.ensures
    ]
