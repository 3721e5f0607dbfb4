-- Lists walked by a loop, an element at a time: `any_byte` and `marked_from`.
use mathlib.Core.Path.{◌≡◌, refl}
use mathlib.Core.Bool.{Bool, true, false, not, ◌||◌}
use mathlib.Core.List.{List}
use Prim.Native.Nat.{ℕ, ◌+◌, ◌/◌, ◌%◌, ◌^◌, ◌≤◌, ◌<◌}
use native.Mathlib.Nat.{zero-div}
use native.Mathlib.Numerals.{add-one}
use native.Mathlib.Omega.{arith}
use borrow.Author.Tests.{eq-eqb, ne_eqb}
use lib.Dec.{eqb}
use lib.ListN.{length, get_or, drop, drop_of_length-le, get_or-eq_default}
use lib.Seq.{drop-cons}
use Rattle.card.specs.Soundness.{any_byte, marked_from}

-- ---- some byte

module _ (s : List ℕ) (i : ℕ) where
  any_byte_at : i < length s → any_byte (drop i s) ≡ not (eqb (get_or s i 0) 0) || any_byte (drop (i + 1) s)
  unfolding any_byte
  any_byte_at h = rw (add-one i, drop-cons s i 0 h)

  -- what was found, and the bytes that are left
  pub any_byte-next : (found : Bool) → i < length s
      → found || any_byte (drop i s) ≡ (found || not (eqb (get_or s i 0) 0)) || any_byte (drop (i + 1) s)
  any_byte-next true h = refl
  any_byte-next false h = any_byte_at h

  pub any_byte-end : (found : Bool) → length s ≤ i → found || any_byte (drop i s) ≡ found
  unfolding any_byte
  any_byte-end true h = refl
  any_byte-end false h = rw (drop_of_length-le s h)

-- ---- a group's mark, or one behind it

module _ (marks : List ℕ) (group : ℕ) where
  pub marked-outside : length marks ≤ group / 8 → false ≡ marked_from marks group
  unfolding marked_from
  marked-outside h =
      rw (
        get_or-eq_default marks 0 h,
        zero-div (2 ^ (group % 8)),
        any_byte-end marks (group / 8 + 1) false (omega arith),
      )

  pub marked-here : (get_or marks (group / 8) 0 / 2 ^ (group % 8) ≡ 0 → ⊥) → not (eqb (get_or marks (group / 8) 0 / 2 ^ (group % 8)) 0) ≡ marked_from marks group
  unfolding marked_from
  marked-here n = rw (ne_eqb _ _ n)

  pub marked_later : (r : Bool) → get_or marks (group / 8) 0 / 2 ^ (group % 8) ≡ 0 → r ≡ any_byte (drop (group / 8 + 1) marks) → r ≡ marked_from marks group
  unfolding marked_from
  marked_later r z e = rw (eq-eqb _ _ z) e
