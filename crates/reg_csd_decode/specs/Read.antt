-- What was decoded: the fields, or the number of the refusal.
use Rattle.std.specs.Prelude.{List, ℕ, Result}
use Rattle.codec.specs.declared.Refusal.{Refusal}
use Rattle.codec.specs.Answer.{Outcome, outcome_of}
use Rattle.reg_csd.specs.declared.Csd.{Csd}
use Rattle.reg_csd.specs.Csd.{csd_values}

abbrev pub csd_read : Result Csd Refusal → Outcome (List ℕ)
csd_read = outcome_of csd_values
