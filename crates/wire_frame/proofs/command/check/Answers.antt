-- `check` is `check_by` with checks on.
use mathlib.Core.Path.{◌∙◌}
use Rattle.wire_frame.proofs.Commands.{checked_by}
use Rattle.wire_frame.proofs.command.check.Goals as goal

pub returns : goal.returns
returns c = c.check_by.ensures ∙ checked_by.on c.args.s.now
