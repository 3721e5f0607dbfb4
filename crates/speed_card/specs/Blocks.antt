-- So many blocks of a transfer: the model's step, call after call.
use Rattle.std.specs.Prelude.{cond, List, [], ◌∷◌, ℕ, zero, suc, ◌+◌, eqb, leb}
use Rattle.codec.specs.Answer.{Outcome, done, refused}
use Rattle.card.specs.Data.{ACCEPTED}
use Rattle.card.specs.Step.{World, Call, block_in, Reply, silent, sent, answered, over, step}

-- 18 and 25, both from address 0
abbrev pub READ : List ℕ
READ = 0x52 ∷ 0 ∷ 0 ∷ 0 ∷ 0 ∷ 0xE1 ∷ []

abbrev pub WRITE : List ℕ
WRITE = 0x59 ∷ 0 ∷ 0 ∷ 0 ∷ 0 ∷ 0x03 ∷ []

-- a whole block was sent, behind its token or not, or one was accepted
abbrev pub right : Outcome Reply → ℕ
right (done silent) = 0
right (done (sent n)) = cond (leb 514 n) 1 0
right (done (answered n)) = cond (eqb n ACCEPTED) 1 0
right (done over) = 0
right (refused k) = 0

-- memory and the output buffer after the calls, and how many of them were right
pub record Ran : Type 0 where
  pub memory : List ℕ
  pub out : List ℕ
  pub count : ℕ

abbrev pub ran : List ℕ → List ℕ → ℕ → Ran
ran memory out n = record { memory = memory; out = out; count = n }

-- so many calls more; each has the output buffer of the one before
unfoldable pub more : (List ℕ → Call) → ℕ → World → List ℕ → ℕ → Ran
more call zero w out n = ran w.memory out n
more call (suc k) w out n =
    let r = step w (call out) in
    more call k r.world r.out (n + right r.answer)

abbrev pub many : (List ℕ → Call) → ℕ → World → List ℕ → Ran
many call k w out = more call k w out 0

-- the same block again, which has no output buffer
abbrev pub again : List ℕ → List ℕ → Call
again block out = block_in block
