-- `read` looks for the words in turn.
use mathlib.Core.Path.{sym, ◌∙◌}
use Rattle.replay_read.specs.Read.{cmd, blk, CMD, BLK, TAKE, OVER}
use Rattle.replay_read.specs.declared.Input.TheVariants.{Cmd, Blk}
use Rattle.replay_read.proofs.Words.{same_bytes, same_word}
use Rattle.replay_read.proofs.Reading.{held-cmd, held-blk, field-some, field-none, read-cmd, read-blk, read_take, read-over, read_none}
use Rattle.replay_read.proofs.read.Goals as goal

pub returns-in_err-field : goal.returns-in_err-field
returns-in_err-field c =
    let here = c.in-Some.ensures.cases in
    read-cmd c.args.line.now (sym (same_bytes _ CMD) ∙ here.0) _
    (c.from_residual.ensures ∙ field-none 12 _ cmd Cmd held-cmd (rw here.1 at c.in_err-field.ensures))

pub returns-in-Some : goal.returns-in-Some
returns-in-Some c =
    let here = c.in-Some.ensures.cases in
    read-cmd c.args.line.now (sym (same_bytes _ CMD) ∙ here.0) _ (field-some 12 _ cmd Cmd held-cmd _ (rw here.1 at c.in_ok-field.ensures))

pub returns-in_err-field-2 : goal.returns-in_err-field-2
returns-in_err-field-2 c =
    let here = c.in-Some-strip_prefix.ensures.cases in
    read-blk c.args.line.now (sym (same_bytes _ CMD) ∙ c.in_default.ensures.cases) (sym (same_bytes _ BLK) ∙ here.0) _
    (c.from_residual-in_err-field-2.ensures ∙ field-none 1028 _ blk Blk held-blk (rw here.1 at c.in_err-field-2.ensures))

pub returns-in-Some-strip_prefix : goal.returns-in-Some-strip_prefix
returns-in-Some-strip_prefix c =
    let here = c.in-Some-strip_prefix.ensures.cases in
    read-blk c.args.line.now (sym (same_bytes _ CMD) ∙ c.in_default.ensures.cases) (sym (same_bytes _ BLK) ∙ here.0) _
    (field-some 1028 _ blk Blk held-blk _ (rw here.1 at c.in_ok-field-2.ensures))

pub returns-then-eq : goal.returns-then-eq
returns-then-eq c =
    read_take c.args.line.now
    (sym (same_bytes _ CMD) ∙ c.in_default.ensures.cases) (sym (same_bytes _ BLK) ∙ c.in_default-strip_prefix.ensures.cases)
    (same_word _ TAKE _ _ c.as_slice.ensures c.if-eq.ensures)

pub returns-then-eq-2 : goal.returns-then-eq-2
returns-then-eq-2 c =
    read-over c.args.line.now
    (sym (same_bytes _ CMD) ∙ c.in_default.ensures.cases) (sym (same_bytes _ BLK) ∙ c.in_default-strip_prefix.ensures.cases)
    (same_word _ TAKE _ _ c.as_slice.ensures c.if-eq.ensures) (same_word _ OVER _ _ c.as_slice-2.ensures c.if-eq-2.ensures)

pub returns : goal.returns
returns c =
    read_none c.args.line.now
    (sym (same_bytes _ CMD) ∙ c.in_default.ensures.cases) (sym (same_bytes _ BLK) ∙ c.in_default-strip_prefix.ensures.cases)
    (same_word _ TAKE _ _ c.as_slice.ensures c.if-eq.ensures) (same_word _ OVER _ _ c.as_slice-2.ensures c.if-eq-2.ensures)
