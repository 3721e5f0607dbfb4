-- At the end a line that has begun gets its newline, and no byte is taken.
use Rattle.std.proofs.Common.{rules, arith, ◌≡◌, ◌<◌, inr, [], ◌∷◌, take, length, ℕ, List, slice_set, refl}
use Rattle.replay_read.proofs.fill.Goals as goal

-- the first byte is the one that was put there
put_first : (xs : List ℕ) (x : ℕ) → 0 < length xs → take 1 (slice_set xs 0 x) ≡ x ∷ []
put_first [] x h = absurd (omega arith)
put_first (y ∷ xs) x h = refl

pub returns-clause-bytes : goal.returns-clause-bytes
returns-clause-bytes g c = inr (search rules, put_first c.read.new.buf 10 (search rules), c.in_ok-n.ensures.bytes.1 (search rules) (search rules))
