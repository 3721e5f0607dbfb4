-- `decode` answers as `decode_packet` does: it compares the check as a number, and hands back the payload where it lies.
use mathlib.Core.Path.{sym, ◌∙◌}
use Prim.Native.Nat.{◌+◌, ◌≤◌}
use native.Mathlib.Omega.{arith}
use borrow.Author.Rules.{rules}
use borrow.Author.Tests.{eq-eqb, ne_eqb}
use lib.ListN.{length}
use Rattle.wire_packet.specs.Packet.{PAYLOAD, CHECK, payload_of}
use Rattle.wire_packet.proofs.Check.{right-number}
use Rattle.wire_packet.proofs.Answers.{decode-wrong, decode-done}
use Rattle.wire_packet.proofs.decode.Goals as goal

pub returns-then-word32-from : goal.returns-then-word32-from
returns-then-word32-from c =
    let p = c.args.p.now in
    let least : 1 + CHECK ≤ length p = search rules in
    let most : length p ≤ PAYLOAD + CHECK = search rules in
    sym
    (decode-wrong p least most
    (right-number p (omega arith) _ _ (rw (← c.split_at.ensures.back) c.word32.ensures) (rw (← c.split_at.ensures.front) (c.from.ensures ∙ c.crc16.ensures))
    ∙ ne_eqb _ _ c.if-word32-from.true))

pub returns : goal.returns
unfolding payload_of
returns c =
    let p = c.args.p.now in
    let least : 1 + CHECK ≤ length p = search rules in
    let most : length p ≤ PAYLOAD + CHECK = search rules in
    sym
    (decode-done p _
    (record {
      least = least;
      most = most;
      sound =
          right-number p (omega arith) _ _ (rw (← c.split_at.ensures.back) c.word32.ensures) (rw (← c.split_at.ensures.front) (c.from.ensures ∙ c.crc16.ensures))
          ∙ eq-eqb _ _ c.if-word32-from.false;
      value = sym c.split_at.ensures.front;
    }))
