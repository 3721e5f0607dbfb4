-- Limit and polls in range.
use mathlib.Core.Path.{◌≡◌, refl}
use mathlib.Core.Bool.{Bool, true, false, not, ◌||◌, true≢false, and-eq-true_iff}
use Prim.Native.Nat.{ℕ, ◌≤◌}
use borrow.Author.Tests.{ltb-false, leb-true, le-leb, le-ltb, not-false}
use lib.Dec.{leb, ltb}
use Rattle.host.specs.Host.{limited, MOST, unsound}

pub record InRange (limit polls : ℕ) : Type 0 where
  pub least : 1 ≤ limit
  pub most : limit ≤ MOST
  pub polled : polls ≤ limit

neither : (a b : Bool) → (a || b) ≡ false → (a ≡ false) × (b ≡ false)
neither true b e = absurd (true≢false e)
neither false b e = (refl, e)

pub in_range : (limit polls : ℕ) → unsound limit polls ≡ false → InRange limit polls
unfolding unsound
in_range limit polls e =
    let p = neither (not (limited limit)) (ltb limit polls) e in
    let q = (and-eq-true_iff (leb 1 limit) (leb limit MOST)).0 (not-false (limited limit) p.0) in
    record { least = leb-true 1 limit q.0; most = leb-true limit MOST q.1; polled = ltb-false limit polls p.1 }

pub range_sound : (limit polls : ℕ) → InRange limit polls → unsound limit polls ≡ false
unfolding unsound
range_sound limit polls r = rw (le-leb 1 limit r.least, le-leb limit MOST r.most, le-ltb limit polls r.polled) refl
