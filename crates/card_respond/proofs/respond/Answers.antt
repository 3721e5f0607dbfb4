-- Too small a buffer, or the message.
use Rattle.std.proofs.Common.{length, ap₂, arith, le-ltb, lt-ltb}
use Rattle.card_respond.specs.Sent.{responded, on_line}
use Rattle.card_respond.proofs.respond.Goals as goal

pub returns-then-out-lt17 : goal.returns-then-out-lt17
unfolding on_line
returns-then-out-lt17 c = rw (lt-ltb (length c.args.out.now) 17 (omega (arith, c.if-out-lt17.true)))

pub returns : goal.returns
unfolding on_line
returns c =
    let e = c in
    let s = e in
    rw (le-ltb (length s.args.out.now) 17 (omega (arith, s.if-out-lt17.false))) (ap₂ responded e.emit.ensures.0 e.emit.ensures.1)
