-- Into the transfer that is open.
use mathlib.Core.Path.{refl, ap, ◌∙◌}
use mathlib.Core.Bool.{Bool, not, ◌||◌}
use Rattle.wire_packet.specs.Packet.{payload_of, packet_right}
use Rattle.card.specs.declared.answer.Answer.TheVariants.{Silence}
use Rattle.card.specs.declared.Open.TheVariants.{Write}
use Rattle.card.specs.State.{locking}
use Rattle.card_call.proofs.Turns as Turns
use Rattle.card_block_in.specs.Enters.{payload_turned}
use Rattle.card_block_in.proofs.Blocks as Blocks
use Rattle.card_block_in.proofs.Gives.{unwritten}
use Rattle.card_block_in.proofs.enter.enter.Goals as goal

pub write_sink-requires : goal.write_sink-requires
unfolding payload_of
write_sink-requires c =
    (c.requires.stores _ c.in-Write.is, λ e. Blocks.length-payload _ (c.requires.whole (ap locking c.in-Write.is ∙ e)))

pub returns-in-Write : goal.returns-in-Write
unfolding payload_of
returns-in-Write c =
    let args = c.args in
    rw c.in-Write.is
    (c.write_sink.ensures
    ∙ ap (λ (b : Bool). payload_turned args.card (Write c.in-Write.sink) b (payload_of args.packet.now) args.memory.now) c.packet_right-right.ensures)

pub returns-in-Nothing : goal.returns-in-Nothing
returns-in-Nothing c =
    let args = c.args in
    let card = args.card in
    let p = args.packet.now in
    unwritten card (not args.checks || packet_right p) (payload_of p) args.memory.now c.in-Nothing.is
    (Turns.silent (Turns.after card card.core Silence) card card.core card.core refl refl args.memory.now _ refl)
