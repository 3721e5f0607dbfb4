-- `read` looks for the words in turn.
use mathlib.Core.Path.{sym, ap, ◌∙◌}
use borrow.Author.Tests.{eqb-true, eqb-false}
use lib.ListN.{take}
use Rattle.replay_read.proofs.Words.{same_bytes, same_word}
use Rattle.bring_up_line.specs.Answer.{NONE, RSP, said, read_answer}
use Rattle.bring_up_line.proofs.Fields.{no_digits, digits_said, behind_word}
use Rattle.bring_up_line.proofs.answer.read.Goals as goal

pub returns-then-eq : goal.returns-then-eq
unfolding read_answer
returns-then-eq c = rw (same_word _ NONE _ _ c.as_slice.ensures c.if-eq.ensures)

pub returns-in_err-digits : goal.returns-in_err-digits
unfolding read_answer
returns-in_err-digits c =
    simp (
      c.from_residual.ensures,
      same_word c.args.line.now NONE _ _ c.as_slice.ensures c.if-eq.ensures,
      sym (same_bytes (take 4 c.args.line.now) RSP) ∙ c.in_err-digits.ensures.cases,
    )

pub returns-then-is_empty : goal.returns-then-is_empty
returns-then-is_empty c =
    let line = c.args.line.now in
    let here = c.in_ok-digits.ensures.cases in
    no_digits _ _ (eqb-true _ 0 (sym (rw here.1 at c.if-is_empty.ensures)))
    ∙ behind_word _ line (same_word line NONE _ _ c.as_slice.ensures c.if-eq.ensures) (sym (same_bytes (take 4 line) RSP) ∙ here.0)

pub returns : goal.returns
returns c =
    let line = c.args.line.now in
    let here = c.in_ok-digits.ensures.cases in
    ap said (rw here.1 at c.field_into.ensures.field)
    ∙ digits_said _ _ (eqb-false _ 0 (sym (rw here.1 at c.if-is_empty.ensures)))
    ∙ behind_word _ line (same_word line NONE _ _ c.as_slice.ensures c.if-eq.ensures) (sym (same_bytes (take 4 line) RSP) ∙ here.0)
