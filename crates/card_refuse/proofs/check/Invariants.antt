-- At the loop's head, the rows that are left give the refusal of all.
use mathlib.Core.Path.{◌≡◌}
use mathlib.Core.List.{map}
use lib.ListN.{drop}
use Rattle.codec.specs.Answer.{row_of}
use Rattle.card.specs.Step.{refusal}
use Rattle.card_refuse.proofs.check.Given as goal

abbrev pub invariant-loop-refusal : goal.invariant-loop-refusal
invariant-loop-refusal l = refusal (map row_of (drop l.refusal-index l.order)) l.r ≡ refusal (map row_of l.order) l.r
