-- `judge` gives the verdict on size, check and end bit.
use mathlib.Core.Path.{ap}
use native.Mathlib.Omega.{arith}
use Rattle.codec.specs.Answer.{nonzero}
use Rattle.reg_cid.proofs.Sixteen.{verdict_size, verdict_wrong, verdict_right}
use Rattle.reg_cid.proofs.content.judge.Goals as goal

pub returns-then-s-ne16 : goal.returns-then-s-ne16
returns-then-s-ne16 c = ap nonzero (verdict_size _ c.if-s-ne16.true)

pub returns-then-s-seal : goal.returns-then-s-seal
returns-then-s-seal c =
    ap nonzero (verdict_wrong _ c.seal.result c.if-s-ne16.false (c.type_inv.s 15).fits (omega arith) c.seal.ensures c.if-s-seal.true)

pub returns : goal.returns
returns c =
    ap nonzero (verdict_right _ c.seal.result c.if-s-ne16.false (c.type_inv.s 15).fits (omega arith) c.seal.ensures c.if-s-seal.false)
