-- Silent, held, or the block.
use mathlib.Core.Path.{◌≡◌, refl, sym, ap, ◌∙◌}
use mathlib.Core.Bool.{Bool, true, false}
use mathlib.Core.List.{[], ◌∷◌}
use Prim.Native.Nat.{ℕ, ◌+◌, ◌-◌, ◌*◌, ◌≤◌}
use native.Mathlib.Omega.{arith}
use borrow.Author.Tests.{leb-false, ltb-false}
use borrow.Rule.Slice.PartMut.{mid_len}
use lib.ListN.{length, take, drop}
use Rattle.std.proofs.Math.Option.{none, some}
use Rattle.std.proofs.Math.Option as Model
use Rattle.std.specs.Prelude.{Option, None, Some, Result, Ok, Err}
use Rattle.card.specs.declared.answer.Answer.TheVariants.{Silence}
use Rattle.card.specs.declared.Core.{Core}
use Rattle.card.specs.Settings.{BLOCK}
use Rattle.card.specs.Status.{OUT_OF_RANGE, ADDRESS_ERROR}
use Rattle.card.specs.Checks.{◌sets◌, first_failure, outside, crossing}
use Rattle.card.specs.Frame.{Turn}
use Rattle.card.specs.Data.{take_source, hold_read, read_block}
use Rattle.card.specs.Step.{led_message, led}
use Rattle.card_call.specs.Seen.{turned}
use Rattle.card_call.proofs.Turns.{after, silent}
use Rattle.card_start.specs.Outcome.{failure}
use Rattle.card_take.proofs.Sending.{block-sent}
use Rattle.card_take.proofs.Takes.{inside, bit_of, holds, in_range, in_block}
use Rattle.card_take.proofs.turn.take_blocks.Goals as goal

pub returns-then-t : goal.returns-then-t
unfolding take_source led_message
returns-then-t c =
    let card = c.args.card in
    rw c.if-t.true (silent (after card card.core Silence) card card.core card.core refl refl _ _ refl)

-- the two tests, by the record's own numbers
abbrev past : Core → ℕ → Bool
past core address = outside (core.settings.blocks * BLOCK) address

abbrev across : Core → ℕ → Bool
across core address = crossing core.length address

-- the bit of a start check that failed
code : Model.Option ℕ → Option ℕ
code none = None
code (some n) = Some n

listed : (p q : Bool) → code (first_failure (p sets OUT_OF_RANGE ∷ (q sets ADDRESS_ERROR ∷ []))) ≡ bit_of p q
unfolding first_failure code
listed true q = refl
listed false true = refl
listed false false = refl

-- what the start check of a read gives is the bit that holds it
found : (x : Result (Unit {0}) ℕ) (p q : Bool) → failure x ≡ first_failure (p sets OUT_OF_RANGE ∷ (q sets ADDRESS_ERROR ∷ [])) → code (failure x) ≡ bit_of p q
found x p q h = ap code h ∙ listed p q

failed : (x : Result (Unit {0}) ℕ) (n : ℕ) → x ≡ Err n → Some n ≡ code (failure x)
unfolding code
failed x n e = sym (ap (λ (y : Result (Unit {0}) ℕ). code (failure y)) e)

passed : (x : Result (Unit {0}) ℕ) {u : Unit {0}} → x ≡ Ok u → None ≡ code (failure x)
unfolding code
passed x e = sym (ap (λ (y : Result (Unit {0}) ℕ). code (failure y)) e)

bit : (core : Core) (address : ℕ) {x : Option ℕ} {top : ℕ} → top ≡ core.settings.blocks * BLOCK → x ≡ bit_of (outside top address) (across core address)
    → x ≡ bit_of (past core address) (across core address)
bit core address same h = h ∙ ap (λ (n : ℕ). bit_of (outside n address) (across core address)) same

-- a read that no check refuses stays in the card
within : (core : Core) (a : ℕ) (x : Result (Unit {0}) ℕ) {top : ℕ} {u : Unit {0}} → top ≡ core.settings.blocks * BLOCK
    → failure x ≡ first_failure (outside top a sets OUT_OF_RANGE ∷ (across core a sets ADDRESS_ERROR ∷ [])) → x ≡ Ok u
    → a + core.length ≤ core.settings.blocks * BLOCK
within core a x same h p =
    let clear : None ≡ bit_of (past core a) (across core a) = passed x p ∙ bit core a same (found x _ _ h) in
    inside a core.length core.settings.blocks (leb-false _ _ (in_range (past core a) (across core a) clear)) (ltb-false _ _ (in_block (past core a) (across core a) clear))

pub overflow_add-t : goal.overflow_add-t
overflow_add-t c =
    omega (arith, within c.args.card.core c.args.t.address _ c.capacity.ensures c.read_check.ensures c.in_default.is, c.requires.size.blocks)

pub slice_bounds-send-end : goal.slice_bounds-send-end
slice_bounds-send-end c =
    omega (arith, within c.args.card.core c.args.t.address _ c.capacity.ensures c.read_check.ensures c.in_default.is, c.requires.size.whole)

pub returns-in-Err : goal.returns-in-Err
unfolding take_source led_message
returns-in-Err c =
    let args = c.args in
    let core = args.card.core in
    rw c.if-t.false
    (c.hold.ensures args.memory.now args.out.now
    ∙ ap (λ (t : Turn). turned args.card args.memory.now args.out.now (led core.bus.mode t))
    (holds (past core args.t.address) (across core args.t.address) c.in-Err.bit (hold_read core args.t.multiple args.t.address) (read_block core args.memory.now args.t.multiple args.t.address)
    (failed _ _ c.in-Err.is ∙ bit core args.t.address c.capacity.ensures (found _ _ _ c.read_check.ensures))))

pub returns : goal.returns
unfolding take_source
returns c =
    let args = c.args in
    let core = args.card.core in
    let a = args.t.address in
    let n = core.length in
    let s = args.memory.now in
    let clear : None ≡ bit_of (past core a) (across core a) = passed _ c.in_default.is ∙ bit core a c.capacity.ensures (found _ _ _ c.read_check.ensures) in
    let low = in_range (past core a) (across core a) clear in
    let whole = in_block (past core a) (across core a) clear in
    let reach = within core a _ c.capacity.ensures c.read_check.ensures c.in_default.is in
    let k : a + n - a ≡ n = omega arith in
    let l : length (take n (drop a s)) ≡ n =
    ap (λ (j : ℕ). length (take j (drop a s))) (sym k) ∙ mid_len a (a + n) s (omega (arith, reach, c.requires.size.whole)) ∙ k in
    rw (c.if-t.false, low, whole)
    (block-sent c.send.result args.card _ s _ _ c.requires.room (take n (drop a s)) (omega (arith, l, c.requires.low)) (omega (arith, l, c.requires.high)) _ _
    c.behind.ensures
    (ap (λ (j : ℕ). take j (drop a s)) k)
    (c.send.ensures s))
