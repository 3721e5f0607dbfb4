-- At the loop's head, the digits that are left behind the number so far make the limit.
use Rattle.std.proofs.Common.{◌≡◌, ◌≤◌, drop}
use Rattle.bring_up_line.specs.Limit.{limit_from, read_limit}
use Rattle.bring_up_line.proofs.limit.read.Given as goal

abbrev pub invariant-loop-digit : goal.invariant-loop-digit
invariant-loop-digit l = (l.value ≤ 1000) × (limit_from l.value (drop l.digit-index l.text) ≡ read_limit l.text)
