-- Behind the token, or refused.
use mathlib.Core.Path.{sym, ◌∙◌}
use native.Mathlib.Omega.{arith}
use borrow.Author.Rules.{rules}
use borrow.Author.Tests.{eqb-true}
use Rattle.std.proofs.lemmas.Result.{err_from_is_err_and}
use Rattle.card_send.proofs.Led as Led
use Rattle.card_send.proofs.block.encode_led.Goals as goal

pub returns-then-is_empty : goal.returns-then-is_empty
returns-then-is_empty c = c.encode.ensures ∙ Led.no_buffer _ _ (eqb-true _ 0 (sym c.is_empty.ensures ∙ c.if-is_empty.true))

pub returns-in_err-n : goal.returns-in_err-n
returns-in_err-n c =
    let p = err_from_is_err_and c.from_residual.result c.from_residual.ensures.1 in
    rw (p.1, p.2) (Led.refused_as c.args.payload.now c.args.out.now c.encode-2.result _ _ (search rules) c.encode-2.ensures c.in_err-n.was)

pub overflow_add-result : goal.overflow_add-result
overflow_add-result c = omega (arith, Led.few-wrote c.args.payload.now c.args.out.now c.encode-2.result _ _ c.encode-2.ensures c.in_ok-n.was)

pub returns : goal.returns
returns c = Led.wrote c.args.payload.now c.args.out.now c.encode-2.result _ _ (search rules) c.encode-2.ensures c.in_ok-n.was
