-- Answers of encoders and decoders, and the numbers of 01's table of refused calls.
use Rattle.std.specs.Prelude.{cond, List, ◌++◌, ℕ, eqb, length, drop, Result, Ok, Err}
use Rattle.std.specs.Borrow.{Bor}
use Rattle.std.proofs.Math.Option.{Option, none, some}
use Rattle.codec.specs.declared.Refusal.{Refusal}
use Rattle.codec.specs.declared.Refusal.TheVariants.{Size, Record, Memory, Buffer, Closed, Setting, Wrong, Field, Other}

-- what a call comes to: its values, or the number of its refusal
pub data Outcome (A : Type 0) : Type 0 where
  done : A → Outcome A
  refused : ℕ → Outcome A

-- 01's numbers: a size (row 1), the output buffer (row 4), a wrong bit, index or check (row 7), a field too wide (row 8)
abbrev pub SIZE : ℕ
SIZE = 1

abbrev pub BUFFER : ℕ
BUFFER = 4

abbrev pub WRONG : ℕ
WRONG = 7

abbrev pub FIELD : ℕ
FIELD = 8

-- the row of 01's table that a refusal is, or the number that no row has
abbrev pub row_of : Refusal → ℕ
row_of Size = SIZE
row_of Record = 2
row_of Memory = 3
row_of Buffer = BUFFER
row_of Closed = 5
row_of Setting = 6
row_of Wrong = WRONG
row_of Field = FIELD
row_of (Other n) = n.number

-- what a function returned: its values, or the number
abbrev pub outcome_of : {A B : Type 0} → (A → B) → Result A Refusal → Outcome B
outcome_of f (Ok x) = done (f x)
outcome_of f (Err e) = refused (row_of e)

-- the number of a refusal, and 0 for none
abbrev pub number_of : {A : Type 0} → Result A Refusal → ℕ
number_of (Ok x) = 0
number_of (Err e) = row_of e

-- the row of a refusal, or none
abbrev pub row_in : {A : Type 0} → Result A Refusal → Option ℕ
row_in (Ok x) = none
row_in (Err e) = some (row_of e)

-- an encoder's answer: how many bytes it wrote, or the number
abbrev pub encoded : Result ℕ Refusal → Outcome ℕ
encoded = outcome_of (λ n. n)

-- an encoder's whole encoding: its answer, and the output buffer afterwards
pub record Encoding : Type 0 where
  pub answer : Outcome ℕ
  pub buffer : List ℕ

abbrev pub encoding : Result ℕ Refusal → List ℕ → Encoding
encoding r out = record { answer = encoded r; buffer = out }

-- a refusal leaves the buffer
abbrev pub refuse : ℕ → List ℕ → Encoding
refuse k out = record { answer = refused k; buffer = out }

-- bytes are written as a prefix; those behind it stay
abbrev pub emit : List ℕ → List ℕ → Encoding
emit s out = record { answer = done (length s); buffer = s ++ drop (length s) out }

-- what a decoder read that hands back a part of its input
abbrev pub part_read : Result (Bor (List ℕ)) Refusal → Outcome (List ℕ)
part_read = outcome_of (λ part. part.now)

-- a number that says which, or 0 for none
abbrev pub nonzero : ℕ → Option ℕ
nonzero n = cond (eqb n 0) none (some n)
