-- The answer goes to its place in the text.
use Rattle.replay_session.proofs.Ended.{all-behind, line-ends}
use Rattle.replay_session.proofs.by.end_line_by.Goals as goal

pub returns : goal.returns
returns g c =
    let at = c.place-at.ensures in
    line-ends c.args.s _ _ c.args.text.now _ _ _ c.play_line-played.result at.0 at.1 _
    (rw (c.front.ensures, all-behind c.place-at.result c.args.text.now) at c.play_line-played.ensures) _ c.end.ensures
