-- `encode_r7` sends index 8, the voltage and the pattern.
use mathlib.Core.Path.{sym, ◌∙◌}
use mathlib.Core.Bool.{and-true}
use mathlib.Core.List.{[], ◌∷◌}
use Prim.Native.Nat.{◌^◌}
use borrow.Author.Tests.{lt-ltb, ltb-true}
use lib.Dec.{ltb}
use Rattle.codec.specs.Layout.{field, reserved, fits}
use Rattle.wire_response.proofs.Shorts.{encode-short}
use Rattle.wire_response.proofs.Contents.{write-echo}
use Rattle.wire_response.proofs.encode_r7.Goals as goal

pub returns : goal.returns
unfolding fits
returns c =
    let start = c in
    let v = start.args.voltage in
    let p = start.args.pattern in
    c.encode.ensures
    ∙ rw (c.from.ensures, c.from-2.ensures)
    (sym
    (encode-short 8 (reserved 20 ∷ (field 4 ∷ (field 8 ∷ []))) (v ∷ (p ∷ [])) start.args.out.now (ltb v 16) _
    (simp (lt-ltb p (2 ^ 8) start.ranges.pattern.fits, and-true))
    (λ t. write-echo v p (ltb-true v 16 t) start.ranges.pattern.fits)))
