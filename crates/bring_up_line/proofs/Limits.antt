-- The digits of a limit, one at a time.
use mathlib.Core.Path.{◌≡◌, sym, ◌∙◌}
use mathlib.Core.Bool.{true, false, ◌&&◌, and-false}
use mathlib.Core.List.{List, [], ◌∷◌}
use Prim.Native.Nat.{ℕ, ◌+◌, ◌-◌, ◌*◌, ◌≤◌, ◌<◌}
use native.Mathlib.Numerals.{add-one}
use native.Mathlib.Omega.{arith}
use borrow.Author.Tests.{le-leb, lt-leb}
use lib.Dec.{leb}
use lib.ListN.{length, get_or, drop, drop_of_length-le}
use lib.Seq.{drop-cons}
use Rattle.bring_up_line.specs.Limit.{all_digits, number, limit_from, read_limit}

-- a number only grows
grows : (v : ℕ) (s : List ℕ) → v ≤ number v s
unfolding number
grows v [] = omega arith
grows v (c ∷ s) = omega (arith, grows (v * 10 + (c - 48)) s)

pub too_large : (v : ℕ) (s : List ℕ) → 1000 < v → limit_from v s ≡ 0
unfolding limit_from
too_large v s h = rw (lt-leb (number v s) 1000 (omega (arith, grows v s)), and-false)

module _ (text : List ℕ) (i v : ℕ) (h : i < length text) (inv : limit_from v (drop i text) ≡ read_limit text) where
  c : ℕ
  c = get_or text i 0

  rest : List ℕ
  rest = drop (i + 1) text

  one : read_limit text ≡ limit_from v (c ∷ rest)
  unfolding c rest
  one = sym inv ∙ rw (add-one i, drop-cons text i 0 h)

  pub no_digit : false ≡ (leb 48 (get_or text i 0) && leb (get_or text i 0) 57) → 0 ≡ read_limit text
  unfolding c limit_from all_digits
  no_digit w = sym (one ∙ rw (sym w))

  pub more : true ≡ (leb 48 (get_or text i 0) && leb (get_or text i 0) 57) → (d : ℕ) → d ≡ get_or text i 0 - 48
      → limit_from (v * 10 + d) (drop (i + 1) text) ≡ read_limit text
  unfolding c rest limit_from all_digits number
  more w d e = sym (one ∙ rw (sym w, e))

pub whole : (text : List ℕ) (i v : ℕ) → length text ≤ i → v ≤ 1000 → limit_from v (drop i text) ≡ read_limit text → v ≡ read_limit text
unfolding limit_from all_digits number
whole text i v h m inv = sym (sym inv ∙ rw (drop_of_length-le text h, le-leb v 1000 m))
