-- What is played on the card.
use Rattle.replay_session.proofs.Ended.{line-is}
use Rattle.replay_session.proofs.end_line.Goals as goal

pub returns : goal.returns
returns c = line-is _ (λ w line text x e. e) _ _ c.end_line_with.ensures
