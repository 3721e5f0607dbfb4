-- `read` judges the size, the first byte and the last, and reads what is between.
use mathlib.Core.Path.{sym, ap, ◌∙◌}
use mathlib.Core.Bool.{and-false}
use borrow.Author.Tests.{le-ltb, lt-ltb, eq-eqb, ne_eqb}
use lib.ListN.{get_or}
use Rattle.codec.specs.Answer.{done}
use Rattle.wire_frame.specs.Frame.{whole, read_frame}
use Rattle.wire_frame.proofs.Frames.{read_frame-bytes, word-content}
use Rattle.wire_frame.proofs.frame.read.Goals.{then-index-ge64-via-then-index-ge64, then-index-ge64-via-else-index-ge64+then-s-index}
use Rattle.wire_frame.proofs.frame.read.Goals as goal

pub returns-then-s-ne6 : goal.returns-then-s-ne6
unfolding read_frame
returns-then-s-ne6 c = simp (ne_eqb _ _ c.if-s-ne6.true)

pub returns-then-index-ge64 : goal.returns-then-index-ge64
unfolding read_frame whole
returns-then-index-ge64 c =
    elim c.then-index-ge64.branch [
      | then-index-ge64-via-then-index-ge64 w ↦ simp (eq-eqb _ _ c.if-s-ne6.false, le-ltb _ _ w.if-index-ge64.true)
      | then-index-ge64-via-else-index-ge64+then-s-index w ↦
          simp (eq-eqb _ _ c.if-s-ne6.false, lt-ltb _ _ w.if-index-ge64.false, ne_eqb _ _ w.if-s-index.true)
    ]

pub returns-then-s-last : goal.returns-then-s-last
returns-then-s-last c =
    let s = c.args.s.now in
    sym
    (read_frame-bytes c.args.checked c.args.index s c.last.result c.if-s-ne6.false (λ i. (c.type_inv.s i).fits) c.last.type_inv c.last.ensures
    ∙ simp (ne_eqb (get_or s 5 0) c.last.result c.if-s-last.true, and-false))

pub returns : goal.returns
returns c =
    let s = c.args.s.now in
    ap done (word-content s c.word32.result c.if-s-ne6.false c.word32.ensures)
    ∙ sym
    (read_frame-bytes c.args.checked c.args.index s c.last.result c.if-s-ne6.false (λ i. (c.type_inv.s i).fits) c.last.type_inv c.last.ensures
    ∙ simp (lt-ltb _ _ c.if-index-ge64.false, eq-eqb _ _ c.if-s-index.false, eq-eqb _ _ c.if-s-last.false))
