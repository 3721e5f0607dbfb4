-- What a step comes to, which the code decides before it writes: with what is known of the card then, the next command, or the end's answer.
use Rattle.std.specs.Prelude.{List, ℕ, Result, Ok, Err}
use Rattle.host.specs.declared.Command.{Command}
use Rattle.host.specs.declared.Phase.TheVariants.{Ended}
use Rattle.host.specs.declared.Found.{Found}
use Rattle.host.specs.declared.Host.{Host}
use Rattle.host.specs.declared.Answer.{Answer}
use Rattle.host.specs.Host as Host
use Rattle.host.specs.Host.{answer, sends}

-- the frame goes out in this buffer, or the buffer stays
abbrev pub comes_to : Host → Found → Result Command Answer → List ℕ → Host.Result
comes_to h f (Ok k) out = sends h f k out
comes_to h f (Err a) out = record { answer = answer a; host = record { limit = h.limit; polls = h.polls; phase = Ended; found = f }; out = out }
