-- An encoder's answer as the card's: so many bytes were sent, or its refusal.
use Rattle.std.specs.Prelude.{ℕ}
use Rattle.codec.specs.Answer.{Outcome, done, refused}
use Rattle.card.specs.Step.{Reply, sent}

abbrev pub replied : Outcome ℕ → Outcome Reply
replied (done n) = done (sent n)
replied (refused k) = refused k
