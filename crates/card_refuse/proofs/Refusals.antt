-- From the refusal of a call to what the step gives: once, for all calls.
use mathlib.Core.Path.{◌≡◌, sym, ap, ◌∙◌}
use mathlib.Core.List.{List}
use mathlib.Core.Option.{Option, none}
use Prim.Native.Nat.{ℕ}
use Rattle.card.specs.declared.answer.Answer.TheVariants.{Refused}
use Rattle.card.specs.declared.answer.Rows.{Rows}
use Rattle.card.specs.declared.Card.{Card}
use Rattle.card.specs.Step as Step
use Rattle.card.specs.Step.{world, refusal, unless}
use Rattle.card_call.specs.declared.Stepped.{Stepped}
use Rattle.card_call.specs.Seen.{Seen, returned, seen}
use Rattle.codec.specs.Answer.{row_in}
use Rattle.codec.specs.declared.Refusal.{Refusal}
use Rattle.std.specs.Prelude.{Result, Ok, Err}

-- the rows as the code has them, q, and as the model has them, r
module _ (x : Result (Unit {0}) Refusal) (ns : List ℕ) (q r : Rows) (judged : row_in x ≡ refusal ns q) (same : q ≡ r) where
  found : row_in x ≡ refusal ns r
  found = judged ∙ ap (refusal ns) same

  pub none-applies : {u : Unit {0}} → x ≡ Ok u → refusal ns r ≡ none
  none-applies h = sym found ∙ ap (λ (y : Result (Unit {0}) Refusal). row_in y) h

  module _ (card : Card) (memory out : List ℕ) (y : Step.Result) where
    pub refuses : (s : Stepped) {e : Refusal} → x ≡ Err e → s ≡ record { answer = Refused e; card = card }
        → returned s memory out ≡ seen (unless (refusal ns r) (world card memory) out y)
    refuses s {e} h p =
        ap (λ (z : Stepped). returned z memory out) p
        ∙ ap (λ (o : Option ℕ). seen (unless o (world card memory) out y)) (sym (ap (λ (z : Result (Unit {0}) Refusal). row_in z) h) ∙ found)

    pub runs : (v : Seen) {u : Unit {0}} → x ≡ Ok u → v ≡ seen y → v ≡ seen (unless (refusal ns r) (world card memory) out y)
    runs v h p = p ∙ ap (λ (o : Option ℕ). seen (unless o (world card memory) out y)) (sym (none-applies h))
