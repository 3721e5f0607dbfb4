-- Refused, or what the frame comes to.
use mathlib.Core.Path.{ap, ◌∙◌}
use Rattle.card.specs.Frame.{Turn}
use Rattle.card.specs.Step.{world, show, step, framed}
use Rattle.card_call.specs.Seen.{seen}
use Rattle.card_refuse.proofs.Refusals.{none-applies, refuses, runs}
use Rattle.card_command.proofs.Calls.{shows}
use Rattle.card_command.proofs.command_frame.Goals as goal

pub returns-in-Err : goal.returns-in-Err
unfolding step framed
returns-in-Err c = refuses _ _ _ _ c.check.ensures c.rows-r.ensures _ _ _ _ c.refused.result c.in-Err.is c.refused.ensures

pub show-requires : goal.show-requires
show-requires c =
    let a = c.args in
    shows a.card a.low a.frame.now a.memory.now a.out.now
    (none-applies _ _ _ _ c.check.ensures c.rows-r.ensures c.in_default.is) c.receive.result c.receive.ensures

pub returns : goal.returns
unfolding step framed
returns c =
    let a = c.args in
    runs _ _ _ _ c.check.ensures c.rows-r.ensures _ _ _ _ _ c.in_default.is
    (c.show.ensures ∙ ap (λ (t : Turn). seen (show (world a.card a.memory.now) a.card.password a.out.now t)) c.receive.ensures)
