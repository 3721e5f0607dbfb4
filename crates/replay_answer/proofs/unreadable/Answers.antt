-- The refusal, on the line.
use Rattle.replay_answer.proofs.Played.{refused_by}
use Rattle.replay_answer.proofs.unreadable.Goals as goal

pub returns : goal.returns
returns = (λ c memory.
    let call = c.refused in
    refused_by c.args.card memory _ call.result _ (c.answer_line.ensures memory) call.ensures)
