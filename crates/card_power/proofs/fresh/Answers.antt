-- The record of a power-up, part by part.
use Rattle.card.specs.Step.{fresh}
use Rattle.card_power.proofs.fresh.Goals as goal

pub returns : goal.returns
unfolding fresh
returns c = rw (c.csd_of.ensures, c.no_bits.ensures, c.no_erase.ensures)
