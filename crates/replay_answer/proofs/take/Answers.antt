-- What is taken, on the line.
use Rattle.replay_write.specs.declared.Kind.TheVariants.{Block}
use Rattle.replay_answer.proofs.Played.{played_by}
use Rattle.replay_answer.proofs.take.Goals as goal

pub returns-clause-answered : goal.returns-clause-answered
returns-clause-answered c =
    let call = c.take-s in
    played_by Block call.result _ _ _ _ _ (c.answer_line.ensures _) call.ensures
