-- `encode` sends 40h with the index, and the argument.
use mathlib.Core.Path.{sym, ◌∙◌}
use Rattle.wire_frame.proofs.Commands.{encode-command}
use Rattle.wire_frame.proofs.command.encode.Goals as goal

pub returns : goal.returns
returns c =
    let start = c in
    c.encode.ensures ∙ sym (encode-command start.args.index start.args.argument start.args.out.now start.ranges.argument.fits)
