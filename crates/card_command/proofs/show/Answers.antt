-- Memory and marks, the buffer and the line.
use Rattle.card_command.proofs.Calls.{shown}
use Rattle.card_command.proofs.show.Goals as goal

pub returns : goal.returns
returns c =
    let r = c in
    let a = r in
    let w = a in
    let start = w in
    shown start.args.card _ _ start.args.turn r.respond-answer.result _ _ _ _ _ start.requires w.whole-all.ensures a.apply.ensures r.respond-answer.ensures
    c.kept.ensures
