-- The digits of an answer.
use mathlib.Core.Path.{◌≡◌, refl}
use mathlib.Core.Bool.{Bool, true, false, cond, and-false}
use mathlib.Core.List.{List}
use Prim.Native.Nat.{ℕ, ◌*◌, ◌<◌}
use native.Mathlib.Omega.{arith}
use borrow.Author.Tests.{le-leb, lt-leb}
use lib.ListN.{length, take, drop}
use Rattle.std.specs.Prelude.{Some, None}
use Rattle.card.specs.Soundness.{equal}
use Rattle.replay_read.specs.Read.{front_read}
use Rattle.bring_up_line.specs.Answer.{bytes, other, NONE, RSP, field, read_answer, said}

said_cond : (b : Bool) (s : List ℕ) → said (cond b (Some s) None) ≡ cond b (bytes s) other
said_cond true s = refl
said_cond false s = refl

module _ (most : ℕ) (s : List ℕ) where
  pub no_digits : length s ≡ 0 → other ≡ field most s
  unfolding field
  no_digits h = rw (lt-leb 1 (length s) (omega arith))

  pub field_off : 2 * most < length s → field most s ≡ other
  unfolding field
  field_off h = rw (lt-leb (length s) (2 * most) h, and-false)

  -- of one digit or more
  pub digits_said : (length s ≡ 0 → ⊥) → said (front_read most s) ≡ field most s
  unfolding field
  digits_said n = rw (le-leb 1 (length s) (omega arith)) (said_cond _ _)

-- a line with the word is read as its digits
pub behind_word : (most : ℕ) (line : List ℕ) → equal line NONE ≡ false → equal (take 4 line) RSP ≡ true
    → field most (drop 4 line) ≡ read_answer most line
unfolding read_answer
behind_word most line none word = rw (none, word)
