-- `sends` encodes the row's frame.
use mathlib.Core.Path.{◌≡◌, refl, ap, ◌∙◌}
use mathlib.Core.Bool.{Bool, true, false, cond}
use mathlib.Core.List.{List, [], ◌∷◌}
use Prim.Native.Nat.{ℕ, ◌+◌, ◌≤◌, ◌<◌}
use native.Mathlib.Omega.{arith}
use borrow.Author.Rules.{rules}
use borrow.Author.Tests.{le-ltb, lt-ltb}
use lib.ListN.{length}
use Rattle.std.specs.Prelude.{Result, Ok, Err}
use Rattle.std.specs.Int.{from_bool}
use Rattle.codec.specs.declared.Refusal.{Refusal}
use Rattle.codec.specs.Answer.{Encoding, done, encoded, emit}
use Rattle.codec.specs.Layout.{fits}
use Rattle.codec.specs.Format.{image, encode}
use Rattle.wire_frame.specs.Command.{command}
use Rattle.host.specs.declared.Command.{Command}
use Rattle.host.specs.declared.Command.TheVariants.{GoIdleState, SendIfCond, AppCmd, SdSendOpCond, AllSendCid, SendRelativeAddr, SendCsd, SelectCard}
use Rattle.host.specs.declared.Phase.TheVariants.{Sent}
use Rattle.host.specs.declared.Row.{Row}
use Rattle.host.specs.Sequence.{row}
use Rattle.host.specs.Host.{sent, answer, written, counted, sends}
use Rattle.host_step.proofs.turn.sends.Goals as goal

-- an index and an argument that fit, and room
encodes : (index argument : ℕ) (out : List ℕ) → index < 64 → argument < 4294967296 → 17 ≤ length out
    → encode command (index ∷ argument ∷ []) out ≡ emit (image command (index ∷ argument ∷ [])) out
unfolding encode fits
encodes index argument out i a room = rw (le-ltb _ _ room, lt-ltb _ _ i, lt-ltb _ _ a) refl

-- every row fits its frame
row_fits : (k : Command) (rca : ℕ) → rca < 65536 → ((row k rca).index < 64) × ((row k rca).argument < 4294967296)
unfolding row
row_fits GoIdleState rca h = (omega arith, omega arith)
row_fits SendIfCond rca h = (omega arith, omega arith)
row_fits AppCmd rca h = (omega arith, omega arith)
row_fits SdSendOpCond rca h = (omega arith, omega arith)
row_fits AllSendCid rca h = (omega arith, omega arith)
row_fits SendRelativeAddr rca h = (omega arith, omega arith)
row_fits SendCsd rca h = (omega arith, omega arith)
row_fits SelectCard rca h = (omega arith, omega arith)

-- what was written is sent
sent-written : (r : Result ℕ Refusal) (n : ℕ) → encoded r ≡ done n → answer (written r) ≡ done (sent n)
sent-written (Ok m) n e = cc
sent-written (Err k) n e = cc

-- one more where A41 is sent
one_more : (b : Bool) (polls : ℕ) → polls + from_bool b ≡ cond b (polls + 1) polls
one_more true polls = refl
one_more false polls = omega arith

pub returns : goal.returns
unfolding sends counted
returns c =
    let a = c.args in
    let small : a.found.rca < 65536 = search rules in
    let room : 17 ≤ length a.out.now = search rules in
    let fit = row_fits a.command a.found.rca small in
    let e =
    c.encode.ensures ∙ ap (λ (x : Row). encode command (x.index ∷ x.argument ∷ []) a.out.now) c.row-row.ensures ∙ encodes _ _ _ fit.0 fit.1 room
    in
    let answers = ap answer c.into.ensures ∙ sent-written c.encode.result _ (ap (λ (x : Encoding). x.answer) e) in
    let counts : a.host.polls + c.from.result ≡ counted (row a.command a.found.rca).index a.host.polls =
    rw (c.from.ensures, c.counts.ensures, c.row-row.ensures) (one_more _ _)
    in
    λ i. record {
      answer = answers i;
      host = record { limit = a.host.limit; polls = counts i; phase = Sent a.command; found = a.found };
      out = (e i).buffer;
    }
