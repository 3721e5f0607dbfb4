-- `decode_r2` judges the size, the first byte and the last, and hands back what is between.
use mathlib.Core.Path.{sym}
use Rattle.wire_response.proofs.Registers.{register-size, register-first, register-last, register-done}
use Rattle.wire_response_decode.proofs.decode_r2.Goals as goal

pub returns-then-s-ne17 : goal.returns-then-s-ne17
returns-then-s-ne17 c = sym (register-size c.args.s.now c.if-s-ne17.true)

pub returns-then-s-ne63 : goal.returns-then-s-ne63
returns-then-s-ne63 c =
    let at = c in
    sym
    (register-first at.args.s.now at.if-s-ne17.false (λ i. (at.type_inv.s i).fits) c.if-s-ne63.true)

pub returns-then-s-seal : goal.returns-then-s-seal
returns-then-s-seal c =
    let seal = c.seal in
    let at = c in
    let s = at.args.s.now in
    sym
    (register-last s at.if-s-ne17.false (λ i. (at.type_inv.s i).fits) seal.result seal.type_inv seal.ensures at.if-s-ne63.false
    c.if-s-seal.true)

pub returns : goal.returns
returns c =
    let seal = c.seal in
    let at = c in
    let s = at.args.s.now in
    sym
    (register-done s at.if-s-ne17.false (λ i. (at.type_inv.s i).fits) seal.result seal.type_inv seal.ensures at.if-s-ne63.false
    c.if-s-seal.false)
