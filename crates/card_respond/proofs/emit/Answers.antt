-- By the mode.
use Rattle.std.proofs.Common.{ℕ, ◌∷◌, sym, refl, ap}
use Rattle.card.specs.Frame as Frame
use Rattle.card.specs.Step.{wire, reply_of}
use Rattle.card_respond.specs.Sent.{message, behind}
use Rattle.card_respond.proofs.Sending.{shows, shows-silence}
use Rattle.card_respond.proofs.emit.Goals as goal

pub returns-in-Silence : goal.returns-in-Silence
unfolding wire reply_of
returns-in-Silence c = shows-silence _ _ _ (ap (message c.args.c) c.in-Silence.is)

pub returns-in-Spi : goal.returns-in-Spi
unfolding wire reply_of
returns-in-Spi c =
    let send = c in
    let r1 = send in
    shows _ _ (Frame.spi_r1 _ _) (ap (message c.args.c) r1.in-Spi.is) _ _ _ _
    (ap (λ (n : ℕ). n ∷ behind r1.in-Spi.behind) (sym r1.shown_r1.ensures)) refl send.emit_spi.ensures

pub returns-in-Error : goal.returns-in-Error
unfolding wire reply_of
returns-in-Error c =
    let send = c in
    shows _ _ (Frame.plain _) (ap (message c.args.c) send.in-Error.is) _ _ _ _ refl refl send.emit_spi-in-Error.ensures
