-- At the loop's head, the whole is equal where what was looked at was right and what is left is equal.
use mathlib.Core.Path.{◌≡◌}
use mathlib.Core.Bool.{◌&&◌}
use lib.ListN.{length}
use Rattle.std.specs.Iterator.Adapters.{zip_first, zip_second}
use Rattle.std.specs.Slice.Iter.{iter_rest}
use Rattle.card.specs.Soundness.{equal}
use Rattle.card_password.proofs.same.Given as goal

abbrev pub invariant-loop-x : goal.invariant-loop-x
invariant-loop-x l =
    let left = iter_rest (zip_first l.x-iterator) in
    let other = iter_rest (zip_second l.x-iterator) in
    (length left ≡ length other) × ((l.right && equal left other) ≡ equal l.a l.b)
