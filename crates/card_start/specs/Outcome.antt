-- What comes of the start checks: the bit of the first that fails, if one does.
use Rattle.std.proofs.Math.Option.{Option, none, some}
use Rattle.std.specs.Prelude.{ℕ, Result, Ok, Err}
use Rattle.card.specs.declared.Core.{Core}
use Rattle.card.specs.declared.done.Done.{Done}
use Rattle.card.specs.declared.done.Response.TheVariants.{R1}
use Rattle.card.specs.Execute.{ran, raise}

-- the bit that a check gives, as the model has it
abbrev pub failure : Result (Unit {0}) ℕ → Option ℕ
failure (Ok u) = none
failure (Err n) = some n

-- `checked` of the model, by the first failure
abbrev pub outcome : Core → Option ℕ → Done → Done
outcome c v d = elim v [ none ↦ d | some n ↦ ran (raise c n) R1 ]
