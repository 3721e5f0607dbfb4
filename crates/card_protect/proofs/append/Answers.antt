-- A word is one bit longer: shifted, with the bit below.
use Rattle.card_protect.proofs.Words.{appended-bit}
use Rattle.card_protect.proofs.append.Goals as goal

pub returns : goal.returns
returns c j h = appended-bit j c.args.word _ c.args.value h c.from.ensures
