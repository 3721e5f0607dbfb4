-- What a frame comes to, as the model's turn has it; no frame stores a payload.
use Rattle.std.specs.Prelude.{[]}
use Rattle.card.specs.Frame as Frame
use Rattle.card_respond.specs.Sent.{message}
use Rattle.card_turn.specs.declared.Turned.{Turned}

abbrev pub turned : Turned → Frame.Turn
turned t = record { core = t.core; flag = t.flag; message = message t.core t.message; effect = t.effect; payload = [] }
