-- `decode_r1` takes a frame with the index that it is told.
use mathlib.Core.Path.{refl, ◌∙◌}
use mathlib.Core.Bool.{true}
use mathlib.Core.List.{[], ◌∷◌}
use Rattle.codec.specs.Layout.{field, width, judged}
use Rattle.codec.proofs.Words.{within}
use Rattle.wire_response.proofs.Shorts.{read_one, read_short}
use Rattle.wire_response_decode.proofs.decode_r1.Goals as goal

pub returns : goal.returns
unfolding width judged within
returns c =
    let s = c.args.s.now in
    read_one true c.args.index s c.read.result c.read.ensures
    ∙ read_short c.args.index (field 32 ∷ []) s (λ i. (c.type_inv.s i).fits) refl (λ bs. refl) _ _ refl c.read.ensures
