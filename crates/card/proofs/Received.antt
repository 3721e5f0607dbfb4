-- What a frame can come to, in both bus modes: one law for the walk along the frame rules.
use mathlib.Core.Path.{◌≡◌}
use mathlib.Core.Bool.{Bool, true, false, ◌&&◌, and-eq-true_iff}
use mathlib.Core.List.{List}
use Prim.Native.Nat.{ℕ}
use lib.Dec.{eqb}
use Rattle.std.specs.Prelude.{Ok, Err}
use Rattle.wire_frame.specs.declared.command.Fault.TheVariants.{Size, Start, Check}
use Rattle.wire_frame.specs.Command.{FrameCheck}
use Rattle.card.specs.declared.Core.{Core}
use Rattle.card.specs.declared.command.Command.{Command}
use Rattle.card.specs.declared.done.Done.{Done}
use Rattle.card.specs.declared.done.Judged.{Judged}
use Rattle.card.specs.declared.done.Flag.TheVariants.{Keep, Set}
use Rattle.card.specs.Record.{with_app}
use Rattle.card.specs.State.{number, ina, in_spi}
use Rattle.card.specs.Status as Status
use Rattle.card.specs.Table.{row, command_of, own, misses, legal, accepts}
use Rattle.card.specs.Execute.{raise, settled, run}
use Rattle.card.specs.Frame.{plain, Turn, quiet, said, judge, finish}
use Rattle.card.specs.Spi.{COM_CRC_ERROR, ILLEGAL_COMMAND, error_r1, finish_spi}
use Rattle.card.specs.Receive.{chooses, chosen, shown_sd, show_sd, by_check, receive_sd, show_spi, by_check_spi, receive}
use Rattle.card.proofs.Choices.{cond_elim}

-- the command may run on this card
pub record Permitted (c : Core) (k : Command) : Type 0 where
  pub accepted : accepts k c.locked ≡ true
  pub legal : legal k c.bus ≡ true

-- what a command that runs does
abbrev pub doing : Core → Command → ℕ → Done
doing c k x = run k (settled k c) x

pub record Cases (c : Core) (P : Turn → Type 0) : Type 0 where
  pub still : P (quiet c Keep)
  -- SD mode
  pub damaged : P (quiet c Set)
  pub elsewhere : P (quiet (with_app c false) Keep)
  pub illegal : P (quiet (with_app (raise c Status.ILLEGAL_COMMAND) false) Keep)
  pub runs : (k : Command) (x : ℕ) → Permitted c k → P (finish k (number c.bus.state) (doing c k x))
  pub choosing : (k : Command) (x : ℕ) → Permitted c k → eqb (row k).index 0 ≡ true → P (finish_spi c.kept k (chosen (doing c k x)))
  -- SPI mode
  pub damaged_spi : in_spi c.bus.mode ≡ true → P (said c (plain (error_r1 COM_CRC_ERROR c)))
  pub illegal_spi : in_spi c.bus.mode ≡ true → P (said (with_app c false) (plain (error_r1 ILLEGAL_COMMAND c)))
  pub runs_spi : in_spi c.bus.mode ≡ true → (k : Command) (x : ℕ) → Permitted c k → P (finish_spi c.kept k (doing c k x))

module _ (c : Core) (P : Turn → Type 0) (h : Cases c P) where
  judged-sd : (low : Bool) (index x : ℕ) → P (show_sd c low (judge c index x))
  unfolding judge show_sd shown_sd
  judged-sd low index x =
      let k = command_of c.bus index x in
      let Q : Judged → Type 0 = λ j. P (show_sd c low j) in
      cond_elim Q (accepts k c.locked && legal k c.bus)
      (λ p.
      let both = (and-eq-true_iff (accepts k c.locked) (legal k c.bus)).0 p in
      let may : Permitted c k = record { accepted = both.0; legal = both.1 } in
      cond_elim Q (misses (row k).rca (own c.bus x)) (λ t. h.elsewhere)
      (λ t. cond_elim P (chooses low k) (λ e. h.choosing k x may ((and-eq-true_iff low (eqb (row k).index 0)).0 e).1) (λ e. h.runs k x may)))
      (λ t. h.illegal)

  judged-spi : in_spi c.bus.mode ≡ true → (index x : ℕ) → P (show_spi c (judge c index x))
  unfolding judge show_spi
  judged-spi spi index x =
      let k = command_of c.bus index x in
      let Q : Judged → Type 0 = λ j. P (show_spi c j) in
      cond_elim Q (accepts k c.locked && legal k c.bus)
      (λ p.
      let both = (and-eq-true_iff (accepts k c.locked) (legal k c.bus)).0 p in
      let may : Permitted c k = record { accepted = both.0; legal = both.1 } in
      cond_elim Q (misses (row k).rca (own c.bus x)) (λ t. h.still) (λ t. h.runs_spi spi k x may))
      (λ t. h.illegal_spi spi)

  checked-sd : (low : Bool) (f : FrameCheck) → P (by_check f c low)
  unfolding by_check
  checked-sd low (Ok fields) = judged-sd low fields.index fields.argument
  checked-sd low (Err Size) = h.still
  checked-sd low (Err Start) = h.still
  checked-sd low (Err Check) = h.damaged

  checked-spi : in_spi c.bus.mode ≡ true → (f : FrameCheck) → P (by_check_spi f c)
  unfolding by_check_spi
  checked-spi spi (Ok fields) = judged-spi spi fields.index fields.argument
  checked-spi spi (Err Size) = h.still
  checked-spi spi (Err Start) = h.still
  checked-spi spi (Err Check) = h.damaged_spi spi

  pub receive_elim : (low : Bool) (frame : List ℕ) → P (receive c low frame)
  unfolding receive receive_sd
  receive_elim low frame =
      cond_elim P (in_spi c.bus.mode) (λ e. checked-spi e _)
      (λ e. cond_elim P (eqb (number c.bus.state) ina) (λ t. h.still) (λ t. checked-sd low _))
