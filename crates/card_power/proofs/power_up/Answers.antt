-- Refused, or the record of a power-up.
use mathlib.Core.Path.{◌≡◌, ap}
use mathlib.Core.Bool.{Bool, false, not, ◌&&◌}
use mathlib.Core.List.{[]}
use Prim.Native.Nat.{ℕ}
use lib.Dec.{eqb, leb}
use lib.ListN.{length}
use Rattle.card.specs.declared.answer.Answer.TheVariants.{Over}
use Rattle.card.specs.declared.answer.Rows.{Rows}
use Rattle.card.specs.declared.Password.{Password}
use Rattle.card.specs.declared.Card.{Card}
use Rattle.card.specs.Settings.{PASSWORD}
use Rattle.card.specs.Step.{step, powered_up}
use Rattle.card_call.specs.Seen.{returned}
use Rattle.card_refuse.proofs.Refusals.{refuses, runs}
use Rattle.card_power.proofs.power_up.Goals as goal

-- the rows that are not said, the size that the settings say, and whether they are allowed
rows_as : (memory : ℕ) (p : Password) (others : Rows) {size n : ℕ} {good b : Bool}
    → (others.size ≡ false) × ((others.unsound ≡ false) × ((others.memory ≡ false) × ((others.buffer ≡ false) × ((others.closed ≡ false) × (others.settings ≡ false)))))
    → size ≡ n → good ≡ b
    → ◌≡◌ {A = Rows} (record { size = others.size; unsound = others.unsound; memory = not (eqb memory size); buffer = others.buffer; closed = others.closed; settings = not (good && leb p.length PASSWORD) })
    (record { size = false; unsound = false; memory = not (eqb memory n); buffer = false; closed = false; settings = not (b && leb p.length PASSWORD) })
rows_as memory p others (a, (b, (m, (d, (e, s))))) k g = rw (a, b, d, e, k, g)

pub returns-in-Err : goal.returns-in-Err
unfolding step powered_up
returns-in-Err c =
    refuses _ _ _ _ c.check.ensures (rows_as (length c.args.memory.now) c.args.password c.default.result c.default.ensures c.capacity.ensures c.allowed.ensures)
    _ _ _ _ _ c.in-Err.is c.refused.ensures

pub returns : goal.returns
unfolding step powered_up
returns c =
    runs _ _ _ _ c.check.ensures (rows_as (length c.args.memory.now) c.args.password c.default.result c.default.ensures c.capacity.ensures c.allowed.ensures)
    _ _ _ _ _ c.in_default.is
    (ap (λ (k : Card). returned (record { answer = Over; card = k }) c.args.memory.now []) c.start.ensures)
