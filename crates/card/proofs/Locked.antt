-- No command, take, busy over or block of 24 and 25 changes the lock.
use mathlib.Core.Path.{◌≡◌, refl, ap, ◌∙◌}
use mathlib.Core.Bool.{Bool, not, ◌&&◌}
use mathlib.Core.List.{List}
use mathlib.Core.Option.{Option, none, some}
use Prim.Native.Nat.{ℕ, ◌+◌, ◌-◌, ◌/◌}
use lib.Dec.{eqb, leb, ltb}
use Rattle.card.specs.declared.Source.{Source}
use Rattle.card.specs.declared.Source.TheVariants.{Blocks, WriteProtect, WrittenBlocks, Scr, Csd, Cid}
use Rattle.card.specs.declared.Open.{Open}
use Rattle.card.specs.declared.Open.TheVariants.{Nothing, Read, Write, Busy}
use Rattle.card.specs.declared.Core.{Core}
use Rattle.card.specs.declared.command.Command.{Command}
use Rattle.card.specs.declared.command.Command.TheVariants.{GoIdleState, AllSendCid, SendRelativeAddr, SelectCard, DeselectCard, SendIfCond, SendCsd, SendCid, StopTransmission, SendStatus, AppCmd, GoInactiveState, SetBlocklen, ReadSingleBlock, ReadMultipleBlock, SendWriteProt, WriteBlock, WriteMultipleBlock, LockUnlock, SetWriteProt, ClrWriteProt, Erase, EraseWrBlkStart, EraseWrBlkEnd, SdStatus, SendNumWrBlocks, SendScr, SetWrBlkEraseCount, SetClrCardDetect, SdSendOpCond, ReadOcr, CrcOnOff, Unknown}
use Rattle.card.specs.declared.done.Response.TheVariants.{R1}
use Rattle.card.specs.declared.done.Done.{Done}
use Rattle.card.specs.Settings.{BLOCK, capacity, address_of}
use Rattle.card.specs.Record.{is_set, address}
use Rattle.card.specs.State.{number, idle, in_spi}
use Rattle.card.specs.Table.{row}
use Rattle.card.specs.Protect.{whole, guarded, any_guarded}
use Rattle.card.specs.Checks.{Check, first_failure, outside, crossing}
use Rattle.card.specs.Execute.{ran, raise, checked, window, fitting, pending, settled, erase_start, erase_end, skipped, erase, send_op_cond, send_op_cond_spi, sd_send_op_cond, run_at}
use Rattle.card.specs.Frame.{Turn}
use Rattle.card.specs.Receive.{receive}
use Rattle.card.specs.Data.{take_source, take_from, write_into, over_from}
use Rattle.card.proofs.Choices.{cond_either}
use Rattle.card.proofs.Received.{doing, receive_elim}
use Rattle.card.proofs.Frames.{cleared-kept}

-- ---- commands

module _ (c : Core) where
  abbrev Held : Done → Type 0
  Held d = d.core.locked ≡ c.locked

  checked-held : (checks : List Check) (d : Done) → Held d → Held (checked c checks d)
  checked-held checks d h = go (first_failure checks)
    where
      go : (o : Option ℕ) → Held (elim o [ none ↦ d | some n ↦ ran (raise c n) R1 ])
      go none = h
      go (some n) = refl

  skipped-held : (first count : ℕ) → (skipped c first count).locked ≡ c.locked
  unfolding skipped
  skipped-held first count =
      cond_either (λ (d : Core). d.locked ≡ c.locked) (any_guarded (whole c.settings) c.marks first count) refl refl

  erase-held : Held (erase c)
  unfolding erase
  erase-held =
      let first = c.erase.first in
      let second = c.erase.second in
      cond_either Held (is_set first && is_set second)
      (cond_either Held (ltb (address second) (address first)) refl (skipped-held (address first / BLOCK) (address second / BLOCK + 1 - address first / BLOCK)))
      refl

  run-held : (k : Command) (x a : ℕ) → Held (run_at k c x a)
  unfolding run_at sd_send_op_cond send_op_cond_spi send_op_cond erase_start erase_end
  run-held GoIdleState x a = refl
  run-held AllSendCid x a = refl
  run-held SendRelativeAddr x a = refl
  run-held SelectCard x a = refl
  run-held DeselectCard x a = refl
  run-held SendIfCond x a = refl
  run-held SendCsd x a = refl
  run-held SendCid x a = refl
  run-held StopTransmission x a = refl
  run-held SendStatus x a = refl
  run-held AppCmd x a = refl
  run-held GoInactiveState x a = refl
  run-held SetBlocklen x a = cond_either (λ (d : Core). d.locked ≡ c.locked) (leb 1 x && leb x BLOCK) refl refl
  run-held ReadSingleBlock x a = checked-held _ _ refl
  run-held ReadMultipleBlock x a = checked-held _ _ refl
  run-held SendWriteProt x a = checked-held _ _ refl
  run-held WriteBlock x a = checked-held _ _ refl
  run-held WriteMultipleBlock x a = checked-held _ _ refl
  run-held LockUnlock x a = refl
  run-held SetWriteProt x a = checked-held _ _ refl
  run-held ClrWriteProt x a = checked-held _ _ refl
  run-held Erase x a = erase-held
  run-held EraseWrBlkStart x a = checked-held _ _ refl
  run-held EraseWrBlkEnd x a = cond_either Held (is_set c.erase.first) (checked-held _ _ refl) refl
  run-held SdStatus x a = refl
  run-held SendNumWrBlocks x a = refl
  run-held SendScr x a = refl
  run-held SetWrBlkEraseCount x a = refl
  run-held SetClrCardDetect x a = refl
  run-held SdSendOpCond x a =
      cond_either Held (in_spi c.bus.mode)
      (cond_either (λ (d : Core). d.locked ≡ c.locked) (eqb (number c.bus.state) idle) (cond_either (λ (d : Core). d.locked ≡ c.locked) (eqb c.bus.polls 0) refl refl) refl)
      (cond_either Held (eqb (window x) 0) refl (cond_either Held (eqb (fitting x) 0) refl (cond_either Held (eqb c.bus.polls 0) refl refl)))
  run-held ReadOcr x a = refl
  run-held CrcOnOff x a = refl
  run-held Unknown x a = refl

settled-held : (k : Command) (c : Core) → (settled k c).locked ≡ c.locked
unfolding settled
settled-held k c =
    let P : Core → Type 0 = λ d. d.locked ≡ c.locked in
    cond_either P (row k).keeps_erase refl (cond_either P (pending c) refl refl)

-- ---- what a call comes to

module _ (c : Core) where
  abbrev Stays : Turn → Type 0
  Stays t = t.core.locked ≡ c.locked

  doing-held : (k : Command) (x : ℕ) → (doing c k x).core.locked ≡ c.locked
  doing-held k x = let d = settled k c in run-held d k x (address_of d.settings x) ∙ settled-held k c

  pub receive-held : (low : Bool) (frame : List ℕ) → Stays (receive c low frame)
  receive-held =
      receive_elim c Stays (record {
        still = refl;
        damaged = refl;
        elsewhere = refl;
        illegal = refl;
        runs = λ k x may. ap (λ (d : Core). d.locked) (cleared-kept (doing c k x).response (doing c k x).core).1 ∙ doing-held k x;
        choosing = λ k x may zero. doing-held k x;
        damaged_spi = λ spi. refl;
        illegal_spi = λ spi. refl;
        runs_spi = λ spi k x may. doing-held k x;
      })

  pub source_held : (s : Source) (memory : List ℕ) → Stays (take_source s c memory)
  unfolding take_source
  source_held (Blocks multiple address held) memory =
      cond_either Stays held refl
      (cond_either Stays (outside (capacity c.settings) address) refl (cond_either Stays (crossing c.length address) refl refl))
  source_held (WriteProtect address) memory = refl
  source_held Source.SdStatus memory = refl
  source_held WrittenBlocks memory = refl
  source_held Scr memory = refl
  source_held Csd memory = refl
  source_held Cid memory = refl

  pub take-held : (o : Open) (memory : List ℕ) → Stays (take_from o c memory)
  unfolding take_from
  take-held Nothing memory = refl
  take-held (Read s) memory = source_held s memory
  take-held (Write s) memory = refl
  take-held (Busy s) memory = refl

  pub over-held : (o : Open) → Stays (over_from o c)
  unfolding over_from
  over-held Nothing = refl
  over-held (Read s) = refl
  over-held (Write s) = refl
  over-held (Busy s) = refl

  pub write-held : (multiple : Bool) (address : ℕ) (held right : Bool) (payload : List ℕ) → Stays (write_into multiple address held right c payload)
  unfolding write_into
  write-held multiple address held right payload =
      cond_either Stays held refl
      (cond_either Stays (not right) (cond_either (λ (d : Core). d.locked ≡ c.locked) multiple refl refl)
      (cond_either Stays (outside (capacity c.settings) address) refl
      (cond_either Stays (guarded (whole c.settings) c.marks address) refl refl)))
