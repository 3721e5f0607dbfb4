-- What a caller sees of a call: answer, record, memory and output buffer, each as the model's step gives it.
use Rattle.std.specs.Prelude.{List, ℕ}
use Rattle.codec.specs.Answer.{Outcome}
use Rattle.card.specs.declared.Password.{Password}
use Rattle.card.specs.declared.Card.{Card}
use Rattle.card.specs.Frame.{Turn}
use Rattle.card.specs.Step.{Call, Reply, Result, answer, world, show, step}
use Rattle.card_call.specs.declared.Stepped.{Stepped}

pub record Seen : Type 0 where
  pub answer : Outcome Reply
  pub card : Card
  pub memory : List ℕ
  pub out : List ℕ

-- what the function returned, and the two lent slices afterwards; a call that is lent no buffer has the empty one
abbrev pub returned : Stepped → List ℕ → List ℕ → Seen
returned r memory out = record { answer = answer r.answer; card = r.card; memory = memory; out = out }

-- a result of the step, as it is seen
abbrev pub seen : Result → Seen
seen r = record { answer = r.answer; card = r.world.card; memory = r.world.memory; out = r.out }

-- what the step of the histories gives for that very call
abbrev pub stepped : Card → List ℕ → Call → Seen
stepped card memory c = seen (step (world card memory) c)

-- a turn of a call that was not refused, with the password that it leaves
abbrev pub turned_with : Card → Password → List ℕ → List ℕ → Turn → Seen
turned_with card password memory out t = seen (show (world card memory) password out t)

-- where it keeps the card's
abbrev pub turned : Card → List ℕ → List ℕ → Turn → Seen
turned card memory out t = turned_with card card.password memory out t
