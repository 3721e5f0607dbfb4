-- What is shown of what a function returned is shown of what the step gives.
use mathlib.Core.Path.{◌≡◌, ap, ◌∙◌}
use mathlib.Core.List.{List, []}
use Prim.Native.Nat.{ℕ}
use Rattle.codec.specs.declared.Refusal.TheVariants.{Size}
use Rattle.card.specs.declared.answer.Answer.TheVariants.{Refused}
use Rattle.card.specs.declared.Card.{Card}
use Rattle.card.specs.Step.{world}
use Rattle.card_call.specs.declared.Stepped.{Stepped}
use Rattle.card_call.specs.Seen.{Seen, returned}
use Rattle.replay_write.specs.declared.Kind.{Kind}
use Rattle.replay_write.specs.declared.Kind.TheVariants.{Response}
use Rattle.replay_write.specs.Write.{written, refusal}
use Rattle.replay_answer.specs.Played.{Shown, played, on_text}

pub played_by : (kind : Kind) (s : Stepped) (x : Seen) (memory out text : List ℕ) (a : Shown)
    → a ≡ on_text (played kind (returned s memory out)) text → returned s memory out ≡ x → a ≡ on_text (played kind x) text
played_by kind s x memory out text a p q = p ∙ ap (λ (y : Seen). on_text (played kind y) text) q

-- a line that cannot be read
pub refused_by : (card : Card) (memory text : List ℕ) (s : Stepped) (a : Shown)
    → a ≡ on_text (played Response (returned s memory [])) text → s ≡ record { answer = Refused Size; card = card }
    → a ≡ on_text (record { world = world card memory; text = refusal 1 }) text
unfolding written
refused_by card memory text s a p q = p ∙ ap (λ (y : Stepped). on_text (played Response (returned y memory [])) text) q
