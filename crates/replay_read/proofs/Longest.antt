-- A line that is too long is unreadable, and so is its front.
use mathlib.Core.Path.{◌≡◌, refl, sym, ap, ◌∙◌}
use mathlib.Core.Bool.{Bool, true, false, cond}
use mathlib.Core.List.{List}
use Prim.Native.Nat.{ℕ, ◌+◌, ◌<◌}
use native.Mathlib.Omega.{arith}
use borrow.Author.Tests.{ne_eqb, leb-true, leb-false}
use lib.Dec.{leb}
use lib.ListN.{length, take, drop, length-take, length-drop}
use lib.Seq.{take_all}
use Rattle.replay_read.specs.Read.{Request, unreadable, TAKE, OVER, LONGEST, field, read_line}
use Rattle.replay_read.proofs.Words.{lengths_differ}

cond_same : (b : Bool) (l : Request) → cond b l l ≡ l
cond_same true l = refl
cond_same false l = refl

field_off : (n : ℕ) (s : List ℕ) (make : List ℕ → Request) → (length s ≡ n → ⊥) → field n s make ≡ unreadable
unfolding field
field_off n s make h = rw (ne_eqb _ n h)

too_long : (s : List ℕ) → LONGEST < length s → read_line s ≡ unreadable
unfolding read_line
too_long s h =
    let tail = length-drop 4 s in
    rw (
      field_off 12 (drop 4 s) _ (λ e. omega arith),
      field_off 1028 (drop 4 s) _ (λ e. omega arith),
      lengths_differ s TAKE (λ e. omega arith),
      lengths_differ s OVER (λ e. omega arith),
      cond_same,
      cond_same,
    )

pub front_enough : (s : List ℕ) → read_line s ≡ read_line (take (LONGEST + 1) s)
front_enough s = by (leb (length s) (LONGEST + 1)) refl
  where
    by : (b : Bool) → leb (length s) (LONGEST + 1) ≡ b → read_line s ≡ read_line (take (LONGEST + 1) s)
    by true e = ap read_line (sym (take_all (LONGEST + 1) s (leb-true _ _ e)))
    by false e =
        let h : LONGEST + 1 < length s = leb-false _ _ e in
        too_long s (omega arith) ∙ sym (too_long (take (LONGEST + 1) s) (omega (arith, length-take (LONGEST + 1) s)))
