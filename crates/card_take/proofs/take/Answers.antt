-- Refused, or the turn of the open read transfer.
use mathlib.Core.Path.{refl, sym, ap, ◌∙◌}
use Rattle.card.specs.declared.answer.Answer.TheVariants.{Silence}
use Rattle.card.specs.Data.{take_from}
use Rattle.card.specs.Frame.{Turn}
use Rattle.card.specs.Step.{step, taken, led_message, led}
use Rattle.card_call.specs.Seen.{turned}
use Rattle.card_call.proofs.Turns.{after, silent, by_open}
use Rattle.card_refuse.proofs.Refusals.{none-applies, refuses, runs}
use Rattle.card_take.proofs.Takes.{rows_as, takes, unread}
use Rattle.card_take.proofs.take.Goals as goal

pub returns-in-Err : goal.returns-in-Err
unfolding step taken
returns-in-Err c =
    refuses _ _ _ _ c.check.ensures (rows_as _ _ _ _ c.open-open.ensures c.token_size.ensures.0 c.reading.ensures c.rows-r.ensures)
    _ _ _ _ c.refused.result c.in-Err.is c.refused.ensures

pub take_source-requires : goal.take_source-requires
take_source-requires c =
    takes _ _ _ _ _
    (none-applies _ _ _ _ c.check.ensures (rows_as _ _ _ _ c.open-open.ensures c.token_size.ensures.0 c.reading.ensures c.rows-r.ensures) c.in_default.is)

pub returns-in-Read : goal.returns-in-Read
unfolding step taken take_from
returns-in-Read c =
    let card = c.args.card in
    runs _ _ _ _ c.check.ensures (rows_as _ _ _ _ c.open-open.ensures c.token_size.ensures.0 c.reading.ensures c.rows-r.ensures)
    _ _ _ _ _ c.in_default.is
    (by_open _ _ _ (λ x. led card.core.bus.mode (take_from x card.core c.args.memory.now)) c.open-open.ensures c.in-Read.is c.take_source.ensures)

pub returns-in-Nothing : goal.returns-in-Nothing
unfolding step taken led_message
returns-in-Nothing c =
    let args = c.args in
    let card = args.card in
    runs _ _ _ _ c.check.ensures (rows_as _ _ _ _ c.open-open.ensures c.token_size.ensures.0 c.reading.ensures c.rows-r.ensures)
    _ _ _ _ _ c.in_default.is
    (by_open _ _ _ (λ x. led card.core.bus.mode (take_from x card.core args.memory.now)) c.open-open.ensures refl
    (silent (after card card.core Silence) card card.core card.core refl refl args.memory.now args.out.now refl
    ∙ ap (λ (t : Turn). turned card args.memory.now args.out.now (led card.core.bus.mode t)) (sym (unread c.open-open.result c.in-Nothing.is card.core args.memory.now))))
