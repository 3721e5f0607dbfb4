-- `encode_r6` sends index 3, the address and the short status.
use mathlib.Core.Path.{sym, ◌∙◌}
use mathlib.Core.Bool.{true}
use mathlib.Core.List.{[], ◌∷◌}
use Prim.Native.Nat.{◌^◌}
use borrow.Author.Tests.{lt-ltb}
use Rattle.codec.specs.Layout.{field, fits}
use Rattle.wire_response.proofs.Shorts.{encode-short}
use Rattle.wire_response.proofs.Contents.{write-halves}
use Rattle.wire_response.proofs.encode_r6.Goals as goal

pub returns : goal.returns
unfolding fits
returns c =
    let start = c in
    let a = start.args.rca in
    let b = start.args.status in
    c.encode.ensures
    ∙ rw (c.from.ensures, c.from-2.ensures)
    (sym
    (encode-short 3 (field 16 ∷ (field 16 ∷ [])) (a ∷ (b ∷ [])) start.args.out.now true _
    (simp (lt-ltb a (2 ^ 16) start.ranges.rca.fits, lt-ltb b (2 ^ 16) start.ranges.status.fits))
    (λ t. write-halves a b start.ranges.rca.fits start.ranges.status.fits)))
