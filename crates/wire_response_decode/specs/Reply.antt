-- The decoders' answers: the fields' values in the slots' order, or the refusal's number.
use Rattle.std.specs.Prelude.{List, [], ◌∷◌, ℕ, Result}
use Rattle.codec.specs.declared.Refusal.{Refusal}
use Rattle.codec.specs.Answer.{Outcome, outcome_of}
use Rattle.wire_response_decode.specs.declared.Published.{Published}
use Rattle.wire_response_decode.specs.declared.Echo.{Echo}

abbrev pub r1_read : Result ℕ Refusal → Outcome (List ℕ)
r1_read = outcome_of (λ status. status ∷ [])

abbrev pub r3_read : Result ℕ Refusal → Outcome (List ℕ)
r3_read = outcome_of (λ ocr. ocr ∷ [])

abbrev pub r6_read : Result Published Refusal → Outcome (List ℕ)
r6_read = outcome_of (λ r6. r6.rca ∷ r6.status ∷ [])

abbrev pub r7_read : Result Echo Refusal → Outcome (List ℕ)
r7_read = outcome_of (λ r7. r7.voltage ∷ r7.pattern ∷ [])
