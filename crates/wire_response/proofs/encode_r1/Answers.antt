-- `encode_r1` sends its index and the status.
use mathlib.Core.Path.{sym, ◌∙◌}
use mathlib.Core.Bool.{and-true}
use mathlib.Core.List.{[], ◌∷◌, append-nil}
use Prim.Native.Nat.{◌^◌}
use borrow.Author.Tests.{lt-ltb}
use lib.Dec.{ltb}
use Rattle.codec.specs.Layout.{field, write, fits}
use Rattle.wire_response.proofs.Shorts.{encode-short}
use Rattle.wire_response.proofs.encode_r1.Goals as goal

pub returns : goal.returns
unfolding fits write
returns c =
    let start = c in
    c.encode.ensures
    ∙ sym
    (encode-short start.args.index (field 32 ∷ []) (start.args.status ∷ []) start.args.out.now (ltb start.args.index 64) start.args.status
    (simp (lt-ltb start.args.status (2 ^ 32) start.ranges.status.fits, and-true)) (λ t. append-nil _))
