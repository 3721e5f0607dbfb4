-- `encode` copies the payload, and puts its check behind it.
use mathlib.Core.Path.{sym, ap₂, ◌∙◌}
use mathlib.Core.List.{List}
use Prim.Native.Nat.{ℕ, ◌+◌, ◌-◌, ◌≤◌}
use native.Mathlib.Omega.{arith}
use borrow.Author.Rules.{rules}
use lib.ListN.{length}
use Rattle.codec.specs.Answer.{Encoding, done}
use Rattle.wire_packet.specs.Packet.{PAYLOAD, CHECK}
use Rattle.wire_packet.proofs.Answers.{encode-done}
use Rattle.wire_packet.proofs.Emitted.{length-packet, copied-payload, emitted}
use Rattle.wire_packet.proofs.encode.Goals as goal

pub returns : goal.returns
returns c =
    let payload = c.args.payload.now in
    let out = c.args.out.now in
    let n = length payload in
    let least : 1 ≤ n = search rules in
    let most : n ≤ PAYLOAD = search rules in
    let copied-room : n ≤ length out = omega arith in
    ap₂ {C = Encoding} (λ (k : ℕ) (s : List ℕ). record { answer = done k; buffer = s })
    (sym (length-packet payload))
    (emitted payload out (omega arith) (n + CHECK - n) _ _ _ (omega arith) (copied-payload payload out copied-room _ c.copy.ensures) (c.from.ensures ∙ c.crc16.ensures) c.put32.ensures)
    ∙ encode-done payload out least most (omega arith)
