-- Commands 3 and A41: the address that is published, and the polls.
use mathlib.Core.Path.{◌≡◌, refl}
use mathlib.Core.Bool.{Bool, true, false, cond, ◌||◌, false≢true}
use Prim.Native.Nat.{ℕ, ◌+◌, ◌-◌, ◌≤◌}
use native.Mathlib.Omega.{arith}
use borrow.Author.Tests.{ne_eqb}
use lib.Dec.{eqb}
use Rattle.card.specs.declared.State.TheVariants.{Ready, Tran, Ina}
use Rattle.card.specs.declared.Open.TheVariants.{Nothing}
use Rattle.card.specs.declared.Core.{Core}
use Rattle.card.specs.declared.command.Command.TheVariants.{SendRelativeAddr, SdSendOpCond}
use Rattle.card.specs.declared.done.Done.{Done}
use Rattle.card.specs.Record.{with_polls}
use Rattle.card.specs.declared.done.Response.TheVariants.{R1}
use Rattle.card.specs.State.{idle, ident, stby, number, in_spi, number_in, arrive}
use Rattle.card.specs.Table.{row, moves, has, lead, legal, after}
use Rattle.card.specs.Execute.{ran, next_rca, window, fitting, send_op_cond, send_op_cond_spi, sd_send_op_cond, run_at}
use Rattle.card.specs.Soundness.{bad_rca}
use Rattle.card.proofs.Choices.{cond_elim}
use Rattle.card.proofs.Facts.{Transfer, Sturdy}
use Rattle.card.proofs.Changes.{stand, poll, none-transfer}
use Rattle.card.proofs.Moves.{all, from, arrive-transfer, came_from}
use Rattle.card.proofs.Started.{Right, right}

module _ (c : Core) (f : Sturdy c) where
  next_rca-nonzero : eqb (next_rca c.bus.published) 0 ≡ false
  next_rca-nonzero =
      let last = c.bus.published in
      cond_elim (λ (n : ℕ). eqb n 0 ≡ false) (eqb last 0xFFFF) (λ e. refl) (λ e. ne_eqb (last + 1) 0 (λ z. omega arith))

  -- 3: the state that it leads to bears the address that it publishes
  published-rca : (spi : Bool) → has (moves spi SendRelativeAddr) (number_in spi c.bus.state) ≡ true
      → bad_rca spi (number (arrive (lead (moves spi SendRelativeAddr) (number_in spi c.bus.state)) c.bus.state)) (next_rca c.bus.published) ≡ false
  unfolding moves number_in row has lead arrive bad_rca
  published-rca true permitted = refl
  published-rca false permitted = go (eqb ident (number c.bus.state)) (eqb stby (number c.bus.state)) permitted
    where
      go : (x y : Bool) → (x || (y || false)) ≡ true
          → bad_rca false (number (arrive (cond x stby (cond y stby (number c.bus.state))) c.bus.state)) (next_rca c.bus.published) ≡ false
      go true y e = next_rca-nonzero
      go false true e = next_rca-nonzero
      go false false e = absurd (false≢true e)

  pub publish_right : legal SendRelativeAddr c.bus ≡ true → (x y : ℕ) → Right c (run_at SendRelativeAddr c x y)
  unfolding run_at legal after
  publish_right permitted x y =
      let a = next_rca c.bus.published in
      right (stand c f (after SendRelativeAddr c.bus c.bus.state) a c.written (arrive-transfer _ c.bus.state f.transfer)
      (published-rca (in_spi c.bus.mode) permitted)) refl refl

  free : Transfer c.settings Nothing c.written
  free = none-transfer c.settings c.written f.transfer.count

  -- one poll fewer
  fewer : Sturdy (with_polls c (c.bus.polls - 1))
  fewer = poll c f (c.bus.polls - 1) (let h : c.bus.polls ≤ c.settings.polls = f.polls in omega arith)

  sd-right : (a : ℕ) → legal SdSendOpCond c.bus ≡ true → in_spi c.bus.mode ≡ false → Right c (send_op_cond c a)
  unfolding send_op_cond all from row bad_rca
  sd-right a permitted sd =
      let rca = c.bus.rca in
      let P : Done → Type 0 = λ d. Right c d in
      cond_elim P (eqb (window a) 0) (λ e. right f refl refl)
      (λ e1. cond_elim P (eqb (fitting a) 0) (λ e. right (stand c f Ina rca c.written free (rw sd refl)) refl refl)
      (λ e2. cond_elim P (eqb c.bus.polls 0)
      (λ e. right (stand c f Ready rca c.written free (rw sd (came_from SdSendOpCond c.bus permitted idle rca sd refl f.rca))) refl refl)
      (λ e3. right fewer refl refl)))

  spi-right : in_spi c.bus.mode ≡ true → Right c (ran (send_op_cond_spi c) R1)
  unfolding send_op_cond_spi bad_rca
  spi-right spi =
      let P : Core → Type 0 = λ d. Right c (ran d R1) in
      cond_elim P (eqb (number c.bus.state) idle)
      (λ e. cond_elim P (eqb c.bus.polls 0) (λ z. right (stand c f Tran c.bus.rca c.written free (rw spi refl)) refl refl)
      (λ z. right fewer refl refl))
      (λ e. right f refl refl)

  pub poll-right : (a : ℕ) → legal SdSendOpCond c.bus ≡ true → Right c (sd_send_op_cond c a)
  unfolding sd_send_op_cond
  poll-right a permitted =
      cond_elim (λ (d : Done). Right c d) (in_spi c.bus.mode) spi-right (sd-right a permitted)
