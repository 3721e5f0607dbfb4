-- The first word's bytes, the second's behind them, and the check of these.
use mathlib.Core.Path.{refl}
use native.Mathlib.Omega.{arith}
use lib.ListN.{replicate, length-append}
use Rattle.reg_cid.proofs.Sixteen.{length-twice, sealed}
use Rattle.reg_cid.proofs.content.sixteen.Goals as goal

pub returns : goal.returns
returns c = sealed (replicate 16 0) _ _ _ _ c.seal.result refl c.put.ensures c.put-2.ensures (omega arith) c.seal.ensures
