-- A line as the code holds it.
use mathlib.Core.Path.{◌≡◌, refl}
use mathlib.Core.Bool.{Bool, true, false, ◌&&◌, false≢true}
use mathlib.Core.List.{List}
use Prim.Native.Nat.{ℕ, ◌*◌}
use borrow.Author.Tests.{eqb-true}
use lib.Dec.{eqb}
use lib.ListN.{length, take, drop}
use Rattle.card.specs.Soundness.{equal}
use Rattle.card.proofs.Choices.{cond_elim, cond_either}
use Rattle.replay_read.specs.Hex.{all_hex, unhex}
use Rattle.replay_read.specs.Read.{Request, cmd, blk, bare_take, bare_over, unreadable, CMD, BLK, TAKE, OVER, field, read_line, held, request_of}
use Rattle.replay_read.proofs.Digits.{length-unhex}

-- ---- nothing of a line is lost

Kept : Request → Type 0
Kept l = request_of (held l) ≡ l

cmd-whole : (s : List ℕ) → length s ≡ 6 → Kept (cmd s)
unfolding Kept request_of held
cmd-whole s h = refl

blk-whole : (s : List ℕ) → length s ≡ 514 → Kept (blk s)
unfolding Kept request_of held
blk-whole s h = refl

bare-whole : Kept bare_take × Kept bare_over × Kept unreadable
unfolding Kept request_of held
bare-whole = (refl, refl, refl)

field-whole : (n : ℕ) (s : List ℕ) (make : List ℕ → Request) → ((t : List ℕ) → length t ≡ n → Kept (make t)) → Kept (field (2 * n) s make)
unfolding field
field-whole n s make k =
    cond_elim Kept (eqb (length s) (2 * n) && all_hex s) (λ e. k (unhex s) (length-unhex n s (eqb-true _ _ (first _ _ e)))) (λ e. bare-whole.2)
  where
    first : (a b : Bool) → (a && b) ≡ true → a ≡ true
    first true b e = refl
    first false b e = absurd (false≢true e)

pub held_whole : (s : List ℕ) → request_of (held (read_line s)) ≡ read_line s
unfolding Kept read_line
held_whole s =
    cond_either Kept (equal (take 4 s) CMD) (field-whole 6 (drop 4 s) cmd cmd-whole)
    (cond_either Kept (equal (take 4 s) BLK) (field-whole 514 (drop 4 s) blk blk-whole)
    (cond_either Kept (equal s TAKE) bare-whole.0 (cond_either Kept (equal s OVER) bare-whole.1 bare-whole.2)))
