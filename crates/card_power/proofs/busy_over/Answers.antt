-- Refused, or the state behind busy.
use mathlib.Core.Path.{◌≡◌, refl, sym, ap, ◌∙◌}
use mathlib.Core.List.{[]}
use mathlib.Core.Bool.{Bool, false, not}
use mathlib.Core.Logic.{◌⊎◌, inl, inr}
use Prim.Native.Nat.{ℕ}
use Rattle.card.specs.declared.answer.Rows.{Rows}
use Rattle.card.specs.declared.Core.{Core}
use Rattle.card.specs.declared.Source.{Source}
use Rattle.card.specs.declared.Sink.{Sink}
use Rattle.card.specs.declared.Open.{Open}
use Rattle.card.specs.declared.Open.TheVariants.{Nothing, Read, Write}
use Rattle.card.specs.declared.done.Flag.TheVariants.{Keep}
use Rattle.card.specs.Frame.{quiet}
use Rattle.card_call.specs.Seen.{turned}
use Rattle.card.specs.State.{open_of, busy}
use Rattle.card.specs.Data.{over_from}
use Rattle.card.specs.Step.{step, overed}
use Rattle.card_call.proofs.Turns.{silent, ended, by_open}
use Rattle.card_refuse.specs.Rows.{rows_of}
use Rattle.card_refuse.proofs.Refusals.{refuses, runs}
use Rattle.card_power.proofs.busy_over.Goals as goal

rows_as : (c : Core) (password memory : ℕ) {r : Rows} {o : Open} {b : Bool} → o ≡ open_of c.bus.state → b ≡ busy o → r ≡ rows_of c password memory false false (not b)
    → r ≡ rows_of c password memory false false (not (busy (open_of c.bus.state)))
rows_as c password memory state over h = h ∙ ap (λ (b : Bool). rows_of c password memory false false (not b)) (over ∙ ap busy state)

-- where nothing is busy
idle : (q : Open) → (q ≡ Nothing) ⊎ (((s : Source) × (q ≡ Read s)) ⊎ ((s : Sink) × (q ≡ Write s))) → (c : Core) → over_from q c ≡ quiet c Keep
unfolding over_from
idle q (inl e) c = ap (λ (x : Open). over_from x c) e
idle q (inr (inl (s, e))) c = ap (λ (x : Open). over_from x c) e
idle q (inr (inr (s, e))) c = ap (λ (x : Open). over_from x c) e

pub returns-in-Err : goal.returns-in-Err
unfolding step overed
returns-in-Err c =
    refuses _ _ _ _ c.check.ensures (rows_as _ _ _ c.open-open.ensures c.busy.ensures c.rows-r.ensures) _ _ _ _ _ c.in-Err.is c.refused.ensures

pub returns-in-Busy : goal.returns-in-Busy
unfolding step overed over_from
returns-in-Busy c =
    runs _ _ _ _ c.check.ensures (rows_as _ _ _ c.open-open.ensures c.busy.ensures c.rows-r.ensures) _ _ _ _ _ c.in_default.is
    (by_open _ _ _ (λ x. over_from x c.args.card.core) c.open-open.ensures c.in-Busy.is
    (ended c.answered.result _ _ _ c.with_state.ensures refl _ _ c.answered.ensures))

pub returns-in-Nothing : goal.returns-in-Nothing
unfolding step overed
returns-in-Nothing c =
    runs _ _ _ _ c.check.ensures (rows_as _ _ _ c.open-open.ensures c.busy.ensures c.rows-r.ensures) _ _ _ _ _ c.in_default.is
    (by_open _ _ _ (λ x. over_from x c.args.card.core) c.open-open.ensures refl
    (silent c.answered-in-Nothing.result _ _ _ refl refl _ _ c.answered-in-Nothing.ensures
    ∙ ap (turned c.args.card c.args.memory.now []) (sym (idle c.open-open.result c.in-Nothing.is c.args.card.core))))
