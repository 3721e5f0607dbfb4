-- What a command that ran leaves.
use mathlib.Core.Path.{◌≡◌, refl, ap, ◌∙◌}
use mathlib.Core.Bool.{Bool}
use mathlib.Core.List.{[]}
use Prim.Native.Nat.{ℕ}
use Rattle.card.specs.declared.Core.{Core}
use Rattle.card.specs.declared.command.Command.{Command}
use Rattle.card.specs.declared.done.Response.{Response}
use Rattle.card.specs.declared.done.Response.TheVariants.{Nothing, R1, R6, Cid, Csd, R3, R7}
use Rattle.card.specs.declared.done.Done.{Done}
use Rattle.card.specs.declared.done.Flag.TheVariants.{Clear}
use Rattle.card.specs.Record.{with_app}
use Rattle.card.specs.Table.{row, sets_app}
use Rattle.card.specs.Frame.{Message, Turn, word_of, message_of, cleared, finish}
use Rattle.card_respond.specs.declared.Message.TheVariants.{Sd}
use Rattle.card_respond.specs.Sent.{message_by}
use Rattle.card_turn.specs.Turned.{turned}

module _ (k : Command) (state : ℕ) (d : Done) where
  -- what is cleared and marked leaves address and registers
  message-kept : (b : Bool) (r : Response)
      → message_by (with_app (cleared r d.core) b) (row k).index (word_of k state d) r ≡ message_of k state d r
  unfolding cleared message_of
  message-kept b Nothing = refl
  message-kept b R1 = refl
  message-kept b R6 = refl
  message-kept b Cid = refl
  message-kept b Csd = refl
  message-kept b (R3 ocr) = refl
  message-kept b (R7 voltage pattern) = refl

  pub finished : (next : Core) (i w : ℕ) → next ≡ with_app (cleared d.response d.core) (sets_app (row k).kind) → i ≡ (row k).index
      → w ≡ word_of k state d
      → turned (record { core = next; flag = Clear; message = Sd d.response i w; effect = d.effect })
      ≡ finish k state d
  finished next i w p q s =
      (λ j. turned (record { core = p j; flag = Clear; message = Sd d.response (q j) (s j); effect = d.effect }))
      ∙ ap {B = Turn}
      (λ (m : Message). record {
        core = with_app (cleared d.response d.core) (sets_app (row k).kind);
        flag = Clear;
        message = m;
        effect = d.effect;
        payload = [];
      })
      (message-kept (sets_app (row k).kind) d.response)
