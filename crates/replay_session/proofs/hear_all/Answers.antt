-- What is played on the card, line after line.
use Rattle.replay_session.proofs.Ended.{all-is}
use Rattle.replay_session.proofs.hear_all.Goals as goal

pub returns : goal.returns
returns c = all-is _ (λ w line text x e. e) _ _ _ c.hear_all_with.ensures
