-- `decode_r6` takes a frame with index 3.
use mathlib.Core.Path.{refl, ap₂, ◌∙◌}
use mathlib.Core.List.{[], ◌∷◌}
use Prim.Native.Nat.{ℕ, ◌/◌, ◌%◌, ◌^◌}
use native.Mathlib.Omega.{arith}
use lib.Bits.{and_mask}
use Rattle.std.specs.Prelude.{Ok, Err}
use Rattle.std.proofs.lemmas.Result.{err_from_is_err_and}
use Rattle.codec.specs.Answer.{done}
use Rattle.codec.specs.Layout.{field, width, judged}
use Rattle.codec.proofs.Words.{within}
use Rattle.wire_response.proofs.Shorts.{read_short}
use Rattle.wire_response_decode.proofs.decode_r6.Goals as goal

pub returns-in_err-content : goal.returns-in_err-content
unfolding width judged within
returns-in_err-content c =
    let p = err_from_is_err_and c.from_residual.result c.from_residual.ensures.1 in
    rw (p.1, p.2)
    (read_short 3 (field 16 ∷ (field 16 ∷ [])) c.args.s.now
    (λ i. (c.type_inv.s i).fits) refl (λ bs. refl) (Err c.in_err-content.field-0.0) (Err c.in_err-content.field-0.0) refl c.in_err-content.ensures)

pub returns : goal.returns
unfolding width judged within
returns c =
    let w = c.in_ok-content.content in
    ap₂ (λ (x y : ℕ). done (x ∷ (y ∷ []))) {x = w / 2 ^ 16} {y = w / 2 ^ 16 % 2 ^ 16} (omega arith) (and_mask w 16 ∙ omega arith)
    ∙ read_short 3 (field 16 ∷ (field 16 ∷ [])) c.args.s.now
    (λ i. (c.type_inv.s i).fits) refl (λ bs. refl) (Ok _) (Ok _) refl c.in_ok-content.ensures
