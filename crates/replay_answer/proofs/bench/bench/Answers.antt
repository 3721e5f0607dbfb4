-- The power-up is not refused.
use borrow.Author.Rules.{rules}
use Rattle.card_power.proofs.Zero.{zero_cid}
use Rattle.replay_answer.proofs.Powered.{powered}
use Rattle.replay_answer.proofs.bench.bench.Goals as goal

pub returns : goal.returns
returns c =
    let none = c in
    let memory = none.args.memory.now in
    let call = c.power_up in
    powered _ memory none.no_password.result call.result (search rules) none.no_password.ensures
    (rw (none.default.ensures.1.0, zero_cid _ none.default.ensures.1.1.0, none.default.ensures.1.1.1.0, none.default.ensures.1.1.1.1) at call.ensures)
