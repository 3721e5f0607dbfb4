-- Turn by turn, until the host ends.
use Rattle.bring_up_run.proofs.bring_up.Given as goal

abbrev pub decreases-loop-turns : goal.decreases-loop-turns
decreases-loop-turns g l = l.turns
