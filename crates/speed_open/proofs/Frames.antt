-- What a call leaves.
use Rattle.card.specs.Step.{World, world}
use Rattle.card_call.specs.Seen.{Seen}

abbrev pub world_of : Seen → World
world_of s = world s.card s.memory
