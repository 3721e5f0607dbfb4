-- No call of data changes the bus mode; a frame that changes it clears COM_CRC_ERROR.
use mathlib.Core.Path.{◌≡◌, refl, sym, ◌∙◌}
use mathlib.Core.Bool.{Bool, true, false, not, true≢false}
use mathlib.Core.List.{List}
use Prim.Native.Nat.{ℕ}
use Rattle.card.specs.declared.Source.{Source}
use Rattle.card.specs.declared.Source.TheVariants.{Blocks, WriteProtect, SdStatus, WrittenBlocks, Scr, Csd, Cid}
use Rattle.card.specs.declared.Sink.TheVariants.{Single, Multiple, LockUnlock}
use Rattle.card.specs.declared.Open.{Open}
use Rattle.card.specs.declared.Open.TheVariants.{Nothing, Read, Write, Busy}
use Rattle.card.specs.declared.Core.{Core}
use Rattle.card.specs.declared.lock.Operation.{Operation}
use Rattle.card.specs.declared.lock.Operation.TheVariants.{ForceErase, Lock, Unlock, ClearPassword, SetPassword, Invalid}
use Rattle.card.specs.declared.done.Flag.TheVariants.{Clear}
use Rattle.card.specs.Settings.{capacity}
use Rattle.card.specs.State.{in_spi}
use Rattle.card.specs.Protect.{whole, guarded}
use Rattle.card.specs.Checks.{outside, crossing}
use Rattle.card.specs.Lock.{operation}
use Rattle.card.specs.Frame.{Turn}
use Rattle.card.specs.Receive.{receive}
use Rattle.card.specs.Data.{take_source, take_from, write_into, operate, lock_into, block_into, over_from}
use Rattle.card.proofs.Choices.{cond_either}
use Rattle.card.proofs.Received.{receive_elim}

module _ (c : Core) where
  abbrev InMode : Turn → Type 0
  InMode t = t.core.bus.mode ≡ c.bus.mode

  source_mode : (s : Source) (memory : List ℕ) → InMode (take_source s c memory)
  unfolding take_source
  source_mode (Blocks multiple address held) memory =
      cond_either InMode held refl
      (cond_either InMode (outside (capacity c.settings) address) refl (cond_either InMode (crossing c.length address) refl refl))
  source_mode (WriteProtect address) memory = refl
  source_mode SdStatus memory = refl
  source_mode WrittenBlocks memory = refl
  source_mode Scr memory = refl
  source_mode Csd memory = refl
  source_mode Cid memory = refl

  pub take-mode : (o : Open) (memory : List ℕ) → InMode (take_from o c memory)
  unfolding take_from
  take-mode Nothing memory = refl
  take-mode (Read s) memory = source_mode s memory
  take-mode (Write s) memory = refl
  take-mode (Busy s) memory = refl

  write-mode : (multiple : Bool) (address : ℕ) (held right : Bool) (payload : List ℕ) → InMode (write_into multiple address held right c payload)
  unfolding write_into
  write-mode multiple address held right payload =
      cond_either InMode held refl
      (cond_either InMode (not right) (cond_either (λ (d : Core). d.bus.mode ≡ c.bus.mode) multiple refl refl)
      (cond_either InMode (outside (capacity c.settings) address) refl
      (cond_either InMode (guarded (whole c.settings) c.marks address) refl refl)))

  operate-mode : (o : Operation) → InMode (operate o c)
  operate-mode ForceErase = refl
  operate-mode Lock = refl
  operate-mode Unlock = refl
  operate-mode ClearPassword = refl
  operate-mode (SetPassword lock) = refl
  operate-mode Invalid = refl

  lock-mode : (right success : Bool) (payload : List ℕ) → InMode (lock_into right success c payload)
  unfolding lock_into
  lock-mode right success payload = cond_either InMode (not right) refl (cond_either InMode success (operate-mode (operation payload)) refl)

  pub block-mode : (o : Open) (right success : Bool) (payload : List ℕ) → InMode (block_into o right success c payload)
  unfolding block_into
  block-mode Nothing right success payload = refl
  block-mode (Read s) right success payload = refl
  block-mode (Write (Single a held)) right success payload = write-mode false a held right payload
  block-mode (Write (Multiple a held)) right success payload = write-mode true a held right payload
  block-mode (Write LockUnlock) right success payload = lock-mode right success payload
  block-mode (Busy s) right success payload = refl

  pub over-mode : (o : Open) → InMode (over_from o c)
  unfolding over_from
  over-mode Nothing = refl
  over-mode (Read s) = refl
  over-mode (Write s) = refl
  over-mode (Busy s) = refl

  -- a frame that finds SD mode and leaves SPI mode
  pub receive-clears : (low : Bool) (frame : List ℕ) → in_spi c.bus.mode ≡ false → in_spi (receive c low frame).core.bus.mode ≡ true
      → (receive c low frame).flag ≡ Clear
  receive-clears =
      let never : in_spi c.bus.mode ≡ false → in_spi c.bus.mode ≡ true → ⊥ = λ sd spi. true≢false (sym spi ∙ sd) in
      receive_elim c (λ t. in_spi c.bus.mode ≡ false → in_spi t.core.bus.mode ≡ true → t.flag ≡ Clear) (record {
        still = λ sd spi. absurd (never sd spi);
        damaged = λ sd spi. absurd (never sd spi);
        elsewhere = λ sd spi. absurd (never sd spi);
        illegal = λ sd spi. absurd (never sd spi);
        runs = λ k x may sd spi. refl;
        choosing = λ k x may zero sd spi. refl;
        damaged_spi = λ here sd spi. absurd (never sd here);
        illegal_spi = λ here sd spi. absurd (never sd here);
        runs_spi = λ here k x may sd spi. refl;
      })
