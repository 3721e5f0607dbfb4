-- `encode` stores a first byte, the content and the last byte.
use mathlib.Core.Path.{◌≡◌, sym, ap, ◌∙◌}
use mathlib.Core.Bool.{Bool, true}
use Prim.Native.Nat.{◌≤◌}
use borrow.Author.Rules.{rules}
use lib.ListN.{length}
use Rattle.wire_frame.specs.Frame.{encode_frame}
use Rattle.wire_frame.proofs.Frames.{put-content, frame-stored}
use Rattle.wire_frame.proofs.frame.encode.Goals as goal

pub returns : goal.returns
returns c =
    let at = c.args in
    let out = at.out.now in
    let room : 17 ≤ length out = search rules in
    let fit : at.fits ≡ true = search rules in
    frame-stored at.checked at.first at.content c.last.result out c.put32.new.out c.ranges.first.fits c.last.type_inv room
    (put-content at.first at.content out c.put32.new.out room c.put32.ensures)
    c.last.ensures
    ∙ ap (λ (p : Bool). encode_frame p at.checked at.first at.content out) (sym fit)
