-- The bytes are copied to the front of zeros.
use native.Mathlib.Omega.{arith}
use lib.ListN.{length-take}
use Rattle.card_password.proofs.Stored.{first_in_front}
use Rattle.card_password.proofs.store.Goals as goal

pub overflow_cast-result : goal.overflow_cast-result
overflow_cast-result c = simp (c.front-first.ensures, length-take) (omega arith)

pub returns : goal.returns
returns c =
    let f = c in
    first_in_front f.args.s.now f.front-first.result.now _ f.front-first.ensures c.copy.ensures
