-- A reply, held against the answer that is expected: silence to 0, else what the decoder accepts; an R7 must echo.
use Rattle.std.specs.Prelude.{cond, ◌&&◌, List, ℕ, eqb, length, get_or}
use Rattle.crc.specs.Bits.{bit}
use Rattle.codec.specs.Answer.{Outcome, done, refused, row_of}
use Rattle.codec.specs.Format.{decode}
use Rattle.wire_response.specs.Response.{r1, r3, r6, r7, decode_r2}
use Rattle.host.specs.declared.Found.{Found}
use Rattle.host.specs.declared.Reason.{Reason}
use Rattle.host.specs.declared.Kind.{Kind}
use Rattle.host.specs.declared.Kind.TheVariants.{Silence, R1, R3, R6, R7, Cid, Csd}
use Rattle.host.specs.Sequence.{VOLTAGE, PATTERN}

-- ---- is it the expected answer

-- why not: the number of the decoder's refusal; something heard where silence is due; an R7 with another voltage or pattern
pub data Cause : Type 0 where
  Refused : ℕ → Cause
  Heard : Cause
  Echo : Cause

-- an R3 with bit 31 clear is busy
pub data Judged : Type 0 where
  Expected : Judged
  Busy : Judged
  Unexpected : Cause → Judged

-- the decoder's fields, or its number
abbrev pub accepted : Outcome (List ℕ) → (List ℕ → Judged) → Judged
accepted (done fields) then = then fields
accepted (refused k) then = Unexpected (Refused k)

-- R3: bit 31 clear is busy, whatever the window
abbrev pub ready : ℕ → Judged
ready ocr = cond (bit ocr 31) Expected Busy

-- R7: voltage and pattern as they were sent
abbrev pub echoed : ℕ → ℕ → Judged
echoed voltage pattern = cond (eqb voltage VOLTAGE && eqb pattern PATTERN) Expected (Unexpected Echo)

-- by the kind that is expected, to a command of this index; an R1 may show errors
unfoldable pub judge : Kind → ℕ → List ℕ → Judged
judge Silence index reply = cond (eqb (length reply) 0) Expected (Unexpected Heard)
judge R1 index reply = accepted (decode (r1 index) reply) (λ fields. Expected)
judge R3 index reply = accepted (decode r3 reply) (λ fields. ready (get_or fields 0 0))
judge R6 index reply = accepted (decode r6 reply) (λ fields. Expected)
judge R7 index reply = accepted (decode r7 reply) (λ fields. echoed (get_or fields 0 0) (get_or fields 1 0))
judge Cid index reply = accepted (decode_r2 reply) (λ register. Expected)
judge Csd index reply = accepted (decode_r2 reply) (λ register. Expected)

-- ---- what is known of the card then

abbrev pub with_rca : Found → ℕ → Found
with_rca f a = record { rca = a; cid = f.cid; csd = f.csd }

abbrev pub with_cid : Found → List ℕ → Found
with_cid f s = record { rca = f.rca; cid = s; csd = f.csd }

abbrev pub with_csd : Found → List ℕ → Found
with_csd f s = record { rca = f.rca; cid = f.cid; csd = s }

-- a reply that the decoder refuses tells nothing
abbrev pub told : Outcome (List ℕ) → Found → (List ℕ → Found) → Found
told (done fields) f then = then fields
told (refused k) f then = f

unfoldable pub learn : Kind → Found → List ℕ → Found
learn Silence f reply = f
learn R1 f reply = f
learn R3 f reply = f
learn R6 f reply = told (decode r6 reply) f (λ fields. with_rca f (get_or fields 0 0))
learn R7 f reply = f
learn Cid f reply = told (decode_r2 reply) f (with_cid f)
learn Csd f reply = told (decode_r2 reply) f (with_csd f)

-- ---- what a caller sees

-- a reason, by the number of its refusal
abbrev pub cause : Reason → Cause
cause (Reason.Refused e) = Refused (row_of e)
cause Reason.Heard = Heard
cause Reason.Echo = Echo
