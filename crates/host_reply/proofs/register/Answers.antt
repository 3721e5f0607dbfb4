-- `register` copies all that the decoder hands back.
use mathlib.Core.Path.{sym}
use Rattle.wire_response.proofs.Registers.{r2_trip}
use Rattle.host_reply.proofs.register.Goals as goal

pub copy_from_slice-requires : goal.copy_from_slice-requires
copy_from_slice-requires c = sym (r2_trip.decoded-size c.args.reply.now _ (sym c.in-Ok.ensures))
