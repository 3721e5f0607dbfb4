-- `decode_r3` takes a frame that ends in eight ones.
use mathlib.Core.Path.{refl, ◌∙◌}
use mathlib.Core.Bool.{false}
use Rattle.codec.proofs.Words.{within}
use Rattle.wire_response.proofs.Shorts.{read_one, read-ones}
use Rattle.wire_response_decode.proofs.decode_r3.Goals as goal

pub returns : goal.returns
unfolding within
returns c =
    let s = c.args.s.now in
    read_one false 63 s c.read.result c.read.ensures ∙ read-ones s (λ i. (c.type_inv.s i).fits) _ _ refl c.read.ensures
