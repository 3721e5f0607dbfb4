-- What is shown is what the function showed.
use mathlib.Core.Path.{refl}
use Rattle.replay_session.proofs.Ended.{played-by}
use Rattle.replay_session.proofs.line_player.PlayFnLinePlayer.play_line.Goals as goal

pub returns : goal.returns
returns g c = played-by _ _ _ _ _ _ _ _ _ _ c.play.ensures.0 refl refl refl
