-- The data answers as bytes, as SPI mode sends them.
use Rattle.std.specs.Prelude.{ℕ, Option, None, Some}
use Rattle.codec.specs.Answer.{Outcome, done, refused}
use Rattle.card.specs.Spi.{data_response}
use Rattle.card.specs.Step.{Reply, silent, sent, answered, over}

-- none where it is no data answer
abbrev pub response_of : Outcome Reply → Option ℕ
response_of (done silent) = None
response_of (done (sent n)) = None
response_of (done (answered n)) = Some (data_response n)
response_of (done over) = None
response_of (refused k) = None
