-- `check_by` looks at the size, then the first byte, then the last.
use mathlib.Core.Path.{◌≡◌, sym, ap, ◌∙◌}
use mathlib.Core.Bool.{Bool, cond}
use Prim.Native.Nat.{ℕ, ◌/◌, ◌^◌}
use borrow.Author.Tests.{eq-eqb, ne_eqb}
use lib.Bits.{bit_and}
use lib.Dec.{eqb}
use lib.ListN.{get_or}
use Rattle.std.specs.Prelude.{Err}
use Rattle.wire_frame.specs.Command.{good, frame_check_by}
use Rattle.wire_frame.specs.declared.command.Fault.TheVariants.{Check, Start}
use Rattle.wire_frame.proofs.Frames.{word-content}
use Rattle.wire_frame.proofs.Commands.{found, frame_check-start, frame_check-bytes}
use Rattle.wire_frame.proofs.command.check_by.Goals as goal

pub returns-then-s-ne6 : goal.returns-then-s-ne6
unfolding frame_check_by
returns-then-s-ne6 c = simp (ne_eqb _ _ c.if-s-ne6.true)

pub returns-then-s-ne1 : goal.returns-then-s-ne1
returns-then-s-ne1 c =
    sym
    (frame_check-start c.args.checks c.args.s.now c.if-s-ne6.false (λ i. (c.type_inv.s i).fits)
    ∙ simp (ne_eqb _ _ c.if-s-ne1.true))

-- behind a right start the last byte is judged by what `last_right` says
by_bytes : (c : goal.Then-not-last_right) → (let s = c.args.s.now in
    frame_check_by c.args.checks s ≡ cond (eqb (get_or s 0 0 / 2 ^ 6) 1) (cond c.last_right.result (found s) (Err Check)) (Err Start))
by_bytes c =
    let s = c.args.s.now in
    frame_check-bytes c.args.checks s c.if-s-ne6.false (λ i. (c.type_inv.s i).fits) c.seal.result c.seal.type_inv c.seal.ensures
    ∙ ap (λ (q : Bool). cond (eqb (get_or s 0 0 / 2 ^ 6) 1) (cond q (found s) (Err Check)) (Err Start)) (sym c.last_right.ensures)

pub returns-then-not-last_right : goal.returns-then-not-last_right
returns-then-not-last_right c = sym (by_bytes c ∙ simp (eq-eqb _ _ c.if-s-ne1.false, c.if-not-last_right.true))

pub returns : goal.returns
returns c =
    let s = c.args.s.now in
    ap (λ (w : ℕ). good (bit_and (get_or s 0 0) 63) w) (word-content s c.word32.result c.if-s-ne6.false c.word32.ensures)
    ∙ sym
    (frame_check-bytes c.args.checks s c.if-s-ne6.false (λ i. (c.type_inv.s i).fits) c.seal.result c.seal.type_inv c.seal.ensures
    ∙ simp (eq-eqb _ _ c.if-s-ne1.false, sym c.last_right.ensures ∙ c.if-not-last_right.false))
