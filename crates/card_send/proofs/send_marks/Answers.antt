-- The word of the marks.
use mathlib.Core.Path.{ap}
use borrow.Author.Rules.{rules}
use Rattle.crc.specs.Bits.{bytes}
use Rattle.card_send.proofs.Sent.{same_as}
use Rattle.card_send.proofs.send_marks.Goals as goal

-- the array of the marks has its length
pub returns : goal.returns
returns c memory =
    let made = c in
    let send = c.send_word in
    same_as send.result made.args.card _ _ _ _ _ _ (send.ensures memory) (ap (bytes 4) made.mark_word-word.ensures)
