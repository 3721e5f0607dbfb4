-- What a caller sees of a block that is sent, or of the encoder's refusal.
use mathlib.Core.Path.{◌≡◌, ap, ◌∙◌}
use mathlib.Core.List.{List}
use Prim.Native.Nat.{ℕ}
use Rattle.std.specs.Prelude.{Result}
use Rattle.codec.specs.declared.Refusal.{Refusal}
use Rattle.codec.specs.Answer.{Outcome, Encoding, encoded, encoding}
use Rattle.card.specs.declared.answer.Answer.{Answer}
use Rattle.card.specs.declared.State.{State}
use Rattle.card.specs.declared.Core.{Core}
use Rattle.card.specs.declared.Card.{Card}
use Rattle.card_call.specs.declared.Stepped.{Stepped}
use Rattle.card.specs.Step.{Reply, answer}
use Rattle.card_call.specs.Seen.{Seen, returned}
use Rattle.card.specs.Replied.{replied}
use Rattle.card_call.proofs.Turns.{after}
use Rattle.card_send.specs.Sending.{sending, sent}

module _ (r : Stepped) (card : Card) (memory made : List ℕ) where
  pub sent_as : (a : Answer) (d core : Core) (e : Result ℕ Refusal) (x : Encoding) → r ≡ after card d a → answer a ≡ replied (encoded e) → d ≡ core
      → encoding e made ≡ x → returned r memory made ≡ sending card core memory x
  sent_as a d core e x p q s h =
      ap (λ (y : Stepped). returned y memory made) (p ∙ ap (λ (y : Core). after card y a) s)
      ∙ ap {B = Seen} (λ (y : Outcome Reply). record { answer = y; card = record { core = core; password = card.password; line = card.line }; memory = memory; out = made }) q
      ∙ ap (sending card core memory) h

-- the same payload
pub same_as : (r : Stepped) (card : Card) (next : State) (memory out made p q : List ℕ) → returned r memory made ≡ sent card next p memory out → p ≡ q
    → returned r memory made ≡ sent card next q memory out
same_as r card next memory out made p q h j = h ∙ ap (λ (s : List ℕ). sent card next s memory out) j
