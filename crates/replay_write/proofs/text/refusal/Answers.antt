-- `refusal` puts the line with as many digits as the number has.
use mathlib.Core.Path.{ap, ◌∙◌}
use mathlib.Core.List.{List}
use Prim.Native.Nat.{ℕ}
use Rattle.replay_write.specs.Write.{refusal, fitted}
use Rattle.replay_write.proofs.Decimals.{one-digit, two_digits, three_digits}
use Rattle.replay_write.proofs.text.refusal.Goals as goal

pub returns-then-number-lt10 : goal.returns-then-number-lt10
returns-then-number-lt10 c =
    let text = c.args.text.now in
    c.put.ensures
    ∙ ap (λ (line : List ℕ). fitted line text) (one-digit _ c.if-number-lt10.true)
    ∙ ap (λ (k : ℕ). fitted (refusal k) text) c.from-number.ensures

pub returns-then-number-lt100 : goal.returns-then-number-lt100
returns-then-number-lt100 c =
    let text = c.args.text.now in
    c.put-then-number-lt100.ensures
    ∙ ap (λ (line : List ℕ). fitted line text) (two_digits _ c.if-number-lt10.false c.if-number-lt100.true)
    ∙ ap (λ (k : ℕ). fitted (refusal k) text) c.from-number.ensures

pub returns : goal.returns
returns c =
    let text = c.args.text.now in
    c.put-2.ensures
    ∙ ap (λ (line : List ℕ). fitted line text) (three_digits _ c.if-number-lt100.false)
    ∙ ap (λ (k : ℕ). fitted (refusal k) text) c.from-number.ensures
