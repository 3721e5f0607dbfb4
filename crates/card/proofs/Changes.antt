-- One part of a sound record changed, and the record of a reset.
use mathlib.Core.Path.{◌≡◌, refl}
use mathlib.Core.Bool.{Bool, true, false}
use mathlib.Core.List.{List}
use Prim.Native.Nat.{ℕ, ◌≤◌, ◌%◌, ◌/◌}
use native.Mathlib.Omega.{arith}
use borrow.Author.Tests.{eq-eqb}
use Rattle.reg_csd.specs.Csd.{csd_values}
use Rattle.card.specs.declared.Settings.{Settings}
use Rattle.card.specs.declared.Source.{Source}
use Rattle.card.specs.declared.Sink.TheVariants.{LockUnlock}
use Rattle.card.specs.declared.Mode.TheVariants.{Spi}
use Rattle.card.specs.declared.State.{State}
use Rattle.card.specs.declared.Open.TheVariants.{Nothing, Read, Write}
use Rattle.card.specs.declared.EraseMarks.{EraseMarks}
use Rattle.card.specs.declared.Core.{Core}
use Rattle.card.specs.Settings.{BLOCK, capacity, allowed, csd_of}
use Rattle.card.specs.Record.{with_settings, with_state, with_written, with_erase, with_length, with_marks, with_polls, with_rca, with_mode, no_erase}
use Rattle.card.specs.State.{number, in_spi, unchecked, open_of, source_address, sink}
use Rattle.card.specs.Execute.{reset}
use Rattle.card.specs.Data.{without_temporary}
use Rattle.card.specs.Soundness.{bad_rca}
use Rattle.card.proofs.Facts.{Transfer, Pending, Marked, Fixed, Size, Sturdy, equal-refl}

-- in SPI mode nothing is asked of the RCA
pub spi-rca : (n rca : ℕ) → bad_rca true n rca ≡ false
unfolding bad_rca
spi-rca n rca = refl

module _ (c : Core) (f : Sturdy c) where
  pub stand : (state : State) (rca n : ℕ) → Transfer c.settings (open_of state) n → bad_rca (in_spi c.bus.mode) (number state) rca ≡ false
      → Sturdy (with_written (with_state (with_rca c rca) state) n)
  stand state rca n t r = record { fixed = f.fixed; polls = f.polls; size = f.size; transfer = t; erase = f.erase; rca = r; marks = f.marks }

  pub pend : (e : EraseMarks) → Pending c.settings e → Sturdy (with_erase c e)
  pend e p = record { fixed = f.fixed; polls = f.polls; size = f.size; transfer = f.transfer; erase = p; rca = f.rca; marks = f.marks }

  pub resize : (n : ℕ) → Size n → Sturdy (with_length c n)
  resize n z = record { fixed = f.fixed; polls = f.polls; size = z; transfer = f.transfer; erase = f.erase; rca = f.rca; marks = f.marks }

  pub remark : (m : List ℕ) → Marked c.settings m → Sturdy (with_marks c m)
  remark m h = record { fixed = f.fixed; polls = f.polls; size = f.size; transfer = f.transfer; erase = f.erase; rca = f.rca; marks = h }

  pub poll : (n : ℕ) → n ≤ c.settings.polls → Sturdy (with_polls c n)
  poll n h = record { fixed = f.fixed; polls = h; size = f.size; transfer = f.transfer; erase = f.erase; rca = f.rca; marks = f.marks }

  -- SPI mode
  pub in_mode : (b : Bool) → Sturdy (with_mode c (Spi b))
  in_mode b = record {
    fixed = f.fixed;
    polls = f.polls;
    size = f.size;
    transfer = f.transfer;
    erase = f.erase;
    rca = spi-rca (number c.bus.state) c.bus.rca;
    marks = f.marks;
  }

  -- temporary protection goes, and the CSD follows
  pub unprotect : Sturdy (with_settings c (without_temporary c.settings))
  unfolding allowed
  unprotect = record {
    fixed = record { settings = f.fixed.settings; csd = equal-refl (csd_values (csd_of (without_temporary c.settings))) };
    polls = f.polls;
    size = f.size;
    transfer = record { inside = f.transfer.inside; aligned = f.transfer.aligned; count = f.transfer.count; most = f.transfer.most };
    erase = record { first = f.erase.first; second = f.erase.second };
    rca = f.rca;
    marks = f.marks;
  }

pub none-pending : (s : Settings) → Pending s no_erase
none-pending s = record { first = refl; second = refl }

-- ---- open transfers

pub none-transfer : (s : Settings) (n : ℕ) → n ≤ s.blocks → Transfer s Nothing n
none-transfer s n h = record { inside = omega arith; aligned = refl; count = h; most = h }

pub data_transfer : (s : Settings) (src : Source) (n : ℕ) → source_address src ≤ capacity s → n ≤ s.blocks → Transfer s (Read src) n
data_transfer s src n h count = record { inside = h; aligned = refl; count = count; most = count }

-- 24 and 25 differ in the kind of their transfer alone
pub rcv-transfer : (s : Settings) (multiple held : Bool) (a n : ℕ) → a ≤ capacity s → a % BLOCK ≡ 0 → n ≤ a / BLOCK
    → Transfer s (Write (sink multiple a held)) n
rcv-transfer s true held a n h aligned most =
    record { inside = h; aligned = rw (eq-eqb (a % BLOCK) 0 aligned); count = omega arith; most = most }
rcv-transfer s false held a n h aligned most =
    record { inside = h; aligned = rw (eq-eqb (a % BLOCK) 0 aligned); count = omega arith; most = most }

pub lock-transfer : (s : Settings) (n : ℕ) → n ≤ s.blocks → Transfer s (Write LockUnlock) n
lock-transfer s n h = record { inside = omega arith; aligned = refl; count = h; most = h }

-- ---- command 0 and a power-up

idle-rca : (spi : Bool) → bad_rca spi 0 0 ≡ false
unfolding bad_rca
idle-rca true = refl
idle-rca false = refl

pub reset-sturdy : (c : Core) → Fixed c.settings c.csd → Marked c.settings c.marks → Sturdy (reset c)
reset-sturdy c fixed marks = record {
  fixed = fixed;
  polls = omega arith;
  size = omega arith;
  transfer = none-transfer c.settings 0 (omega arith);
  erase = none-pending c.settings;
  rca = idle-rca (in_spi (unchecked c.bus.mode));
  marks = marks;
}
