-- How the code hands a reply on: its judgement and what is known of the card, or why it is not the expected one.
use Rattle.std.specs.Prelude.{List, ℕ, get_or, Result, Ok, Err}
use Rattle.codec.specs.Answer.{Outcome, done, refused}
use Rattle.host.specs.declared.Found.{Found}
use Rattle.host.specs.declared.Kind.{Kind}
use Rattle.host.specs.declared.Reason.{Reason}
use Rattle.host.specs.declared.Judgement.{Judgement}
use Rattle.host.specs.declared.Heard.{Heard}
use Rattle.host.specs.Reply.{Judged, Expected, Busy, Unexpected, judge, learn, cause}

abbrev pub judged : Result Judgement Reason → Judged
judged (Ok Judgement.Expected) = Expected
judged (Ok Judgement.Busy) = Busy
judged (Err reason) = Unexpected (cause reason)

pub record Hearing : Type 0 where
  pub judgement : Judged
  pub found : Found

abbrev pub heard : Kind → ℕ → Found → List ℕ → Hearing
heard k index f reply = record { judgement = judge k index reply; found = learn k f reply }

-- where the reply is not the expected one, what was known stays
abbrev pub seen : Found → Result Heard Reason → Hearing
seen f (Ok h) = record { judgement = judged (Ok h.judgement); found = h.found }
seen f (Err reason) = record { judgement = judged (Err reason); found = f }

-- the address of an R6's fields
abbrev pub address_in : Outcome (List ℕ) → Outcome ℕ
address_in (done fields) = done (get_or fields 0 0)
address_in (refused k) = refused k
