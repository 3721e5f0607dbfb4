-- `fields` takes the fields of CID out of its two words.
use mathlib.Core.Path.{refl}
use lib.ListN.{take, drop}
use Rattle.codec.specs.Layout.{width}
use Rattle.codec.proofs.Words.{within}
use Rattle.reg_cid.specs.Cid.{cid}
use Rattle.reg_cid.proofs.Words.{read_two}
use Rattle.reg_cid.proofs.cid.fields.Goals as goal

pub returns : goal.returns
unfolding width within
returns c =
    rw (read_two (take 3 cid.slots) (drop 3 cid.slots) c.args.words.first c.args.words.rest refl refl)
    cc
