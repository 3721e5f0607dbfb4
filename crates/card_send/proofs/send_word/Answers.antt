-- Four bytes, high byte first.
use Rattle.card_send.proofs.Sent.{same_as}
use Rattle.card_send.proofs.send_word.Goals as goal

pub returns : goal.returns
returns c memory =
    same_as c.send.result c.args.card _ _ _ _ _ _ (c.send.ensures memory)
    c.put32.ensures
