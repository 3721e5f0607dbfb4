-- `decode` answers by the frame check.
use mathlib.Core.Path.{sym}
use Rattle.std.proofs.lemmas.Result.{err_from_is_err_and}
use Rattle.wire_frame.proofs.Commands.{decode-checked, decode-refused}
use Rattle.wire_frame.proofs.command.decode.Goals as goal

pub returns-in_err-check : goal.returns-in_err-check
returns-in_err-check c =
    let p = err_from_is_err_and c.from_residual.result c.from_residual.ensures.1 in
    rw (p.1, p.2) (decode-refused c.args.s.now _ (sym c.in_err-check.ensures))

pub returns : goal.returns
returns c = decode-checked c.args.s.now _ c.in_ok-check.ensures
