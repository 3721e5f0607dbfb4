-- The rows of a call one after the other.
use mathlib.Core.Path.{◌≡◌, refl, ◌∙◌}
use mathlib.Core.Bool.{true, false}
use mathlib.Core.List.{List, map}
use mathlib.Core.Option.{none, some}
use Prim.Native.Nat.{ℕ, ◌+◌, ◌≤◌, ◌<◌}
use native.Mathlib.Numerals.{add-one}
use lib.ListN.{length, get_or, drop, drop_of_length-le}
use lib.Seq.{drop-cons}
use Rattle.card.specs.declared.answer.Rows.{Rows}
use Rattle.card.specs.Step.{applies, refusal}
use Rattle.codec.specs.Answer.{row_of}
use Rattle.codec.specs.declared.Refusal.{Refusal}

module _ (order : List Refusal) (r : Rows) (i : ℕ) (d : Refusal) where
  pub row-applies : i < length order → applies r (row_of (get_or order i d)) ≡ true
      → some (row_of (get_or order i d)) ≡ refusal (map row_of (drop i order)) r
  unfolding refusal
  row-applies h e = rw (drop-cons order i d h, e)

  pub row-passes : i < length order → applies r (row_of (get_or order i d)) ≡ false
      → refusal (map row_of (drop i order)) r ≡ refusal (map row_of (drop (i + 1) order)) r
  unfolding refusal
  row-passes h e = rw (add-one, drop-cons order i d h, e)

pub rows-over : (order : List Refusal) (r : Rows) (i : ℕ) → length order ≤ i → none ≡ refusal (map row_of (drop i order)) r
unfolding refusal
rows-over order r i h = rw (drop_of_length-le order {i = i} h)
