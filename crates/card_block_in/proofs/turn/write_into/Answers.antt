-- Held, a wrong check, no place for it, or stored.
use mathlib.Core.Path.{◌≡◌, refl, sym, ap, ap₂, ◌∙◌}
use mathlib.Core.Bool.{Bool}
use mathlib.Core.List.{[]}
use Prim.Native.Nat.{ℕ, ◌+◌, ◌*◌, ◌<◌, ◌≤◌}
use native.Mathlib.Omega.{arith}
use borrow.Author.Tests.{leb-false}
use lib.ListN.{length}
use Rattle.std.specs.Prelude.{Option, None}
use Rattle.card.specs.declared.answer.Answer.TheVariants.{Silence}
use Rattle.card.specs.declared.Core.{Core}
use Rattle.card.specs.declared.done.Flag.TheVariants.{Keep}
use Rattle.card.specs.Settings.{BLOCK, capacity}
use Rattle.card.specs.Record.{with_state}
use Rattle.card.specs.Protect.{whole, guarded}
use Rattle.card.specs.Checks.{outside}
use Rattle.card.specs.Execute.{raise}
use Rattle.card.specs.Frame.{Turn, token, quiet, said}
use Rattle.card.specs.Data.{hold_write, write_into, REJECTED}
use Rattle.card_call.specs.Seen.{turned}
use Rattle.card_call.proofs.Turns as Turns
use Rattle.card_block_in.proofs.Blocks as Blocks
use Rattle.card_block_in.proofs.turn.write_into.Goals as goal

-- ---- what the tests told

abbrev past : Core → ℕ → Bool
past c address = outside (capacity c.settings) address

abbrev kept : Core → ℕ → Bool
kept c address = guarded (whole c.settings) c.marks address

bit : (c : Core) (address : ℕ) {x : Option ℕ} {top : ℕ} {wp all : Bool} → top ≡ capacity c.settings → wp ≡ guarded all c.marks address → all ≡ whole c.settings
    → x ≡ Blocks.bit_of (outside top address) wp → x ≡ Blocks.bit_of (past c address) (kept c address)
bit c address size mark protected h =
    h ∙ ap₂ (λ (n : ℕ) (b : Bool). Blocks.bit_of (outside n address) b) size (mark ∙ ap (λ (b : Bool). guarded b c.marks address) protected)

-- ---- the answers

pub returns-then-t : goal.returns-then-t
unfolding write_into
returns-then-t c =
    let card = c.args.card in
    rw c.if-t.true (Turns.silent (Turns.after card card.core Silence) card card.core card.core refl refl _ _ refl)

pub returns-then-not-right : goal.returns-then-not-right
unfolding write_into
returns-then-not-right c =
    let args = c.args in
    rw (c.if-t.false, c.if-not-right.true)
    (Turns.rejected c.answered.result _ _ _
    (c.with_state-next.ensures ∙ ap (with_state args.card.core) c.rejected.ensures)
    refl _ _ c.answered.ensures
    ∙ ap (λ (x : Core). turned args.card args.memory.now [] (said x (token REJECTED))) (sym (Blocks.choice args.card.core args.t.multiple _ _)))

pub returns-in-Some : goal.returns-in-Some
unfolding write_into
returns-in-Some c =
    let args = c.args in
    let core = args.card.core in
    let a = args.t.address in
    let held : ℕ → Turn = λ n. quiet (hold_write (raise core n) args.t.multiple a) Keep in
    rw (c.if-t.false, c.if-not-right.false)
    (Turns.silent c.answered-in-Some.result _ _ _
    (c.with_state-next-in-Some.ensures ∙ ap₂ with_state c.raise.ensures c.hold.ensures)
    refl _ _ c.answered-in-Some.ensures
    ∙ ap (turned args.card args.memory.now [])
    (Blocks.held_by held _ (past core a) (kept core a) c.in-Some.bit
    (sym c.in-Some.is ∙ bit core a c.capacity.ensures c.guarded-wp.ensures c.whole-all.ensures c.hold_bit.ensures)))

pub returns : goal.returns
unfolding write_into
returns c =
    let args = c.args in
    let core = args.card.core in
    let a = args.t.address in
    let free : None ≡ Blocks.bit_of (past core a) (kept core a) =
    sym c.in_default.is ∙ bit core a c.capacity.ensures c.guarded-wp.ensures c.whole-all.ensures c.hold_bit.ensures in
    let inside = Blocks.inside (past core a) (kept core a) free in
    let below : a < core.settings.blocks * BLOCK = leb-false _ _ inside in
    let reach : a + length args.payload.now ≤ length args.memory.now =
    omega (arith, c.requires.1, below, c.requires.0.aligned, c.requires.0.size.whole) in
    rw (c.if-t.false, c.if-not-right.false, inside, Blocks.unkept (past core a) (kept core a) free)
    (Turns.accepted c.answered-2.result _ _ _
    (c.with_state-next-2.ensures ∙ ap₂ with_state c.with_written-counted.ensures c.accepted.ensures)
    refl _ _ _ _ _
    (Blocks.stored_in c.whole-all.result a args.payload.now args.memory.now core.marks _ _ reach c.apply.ensures)
    c.answered-2.ensures)
