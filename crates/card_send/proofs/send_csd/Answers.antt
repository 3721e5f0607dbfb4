-- The register.
use Rattle.card_send.proofs.Sent.{same_as}
use Rattle.card_send.proofs.send_csd.Goals as goal

pub returns : goal.returns
returns c memory =
    let register = c in
    let send = c.send in
    same_as send.result register.args.card _ _ _ _ _ _ (send.ensures memory) register.sixteen-csd.ensures
