-- What the frame does, on the line.
use Rattle.replay_write.specs.declared.Kind.TheVariants.{Response}
use Rattle.replay_answer.proofs.Played.{played_by}
use Rattle.replay_line.proofs.command.Goals as goal

pub returns : goal.returns
returns c =
    let call = c.command_frame-s in
    played_by Response call.result _ _ _ _ _ (c.answer_line.ensures _) call.ensures
