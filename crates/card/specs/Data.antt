-- Data blocks (01, "Take", "Block in", "Busy over"; 02, order 4), by what the state has open: payloads, whatever frames them in a bus mode.
use Rattle.std.specs.Prelude.{Bool, true, false, cond, not, ◌&&◌, List, [], ℕ, ◌+◌, take, drop, replicate}
use Rattle.crc.specs.Bits.{bits, bytes}
use Rattle.card.specs.declared.Source.{Source}
use Rattle.card.specs.declared.Source.TheVariants.{Blocks, WriteProtect, SdStatus, WrittenBlocks, Scr, Csd, Cid}
use Rattle.card.specs.declared.Sink.{Sink}
use Rattle.card.specs.declared.Sink.TheVariants.{Single, Multiple, LockUnlock}
use Rattle.card.specs.declared.State.TheVariants.{Tran, Data, Rcv, Prg}
use Rattle.card.specs.declared.Open.{Open}
use Rattle.card.specs.declared.Open.TheVariants.{Read, Write, Busy}
use Rattle.card.specs.declared.Settings.{Settings}
use Rattle.card.specs.declared.Core.{Core}
use Rattle.card.specs.declared.Password.{Password}
use Rattle.card.specs.declared.lock.Operation.{Operation}
use Rattle.card.specs.declared.lock.Operation.TheVariants.{ForceErase, Lock, Unlock, ClearPassword, SetPassword, Invalid}
use Rattle.card.specs.declared.done.Effect.{Effect}
use Rattle.card.specs.declared.done.Effect.TheVariants.{Nothing, Store}
use Rattle.card.specs.declared.done.Flag.TheVariants.{Keep}
use Rattle.card.specs.Settings.{BLOCK, capacity, groups, cid_bytes, csd_bytes, scr_bytes}
use Rattle.card.specs.Record.{with_settings, with_locked, with_state, with_written}
use Rattle.card.specs.State.{sink, locking}
use Rattle.card.specs.Status.{OUT_OF_RANGE, ADDRESS_ERROR, WP_VIOLATION, LOCK_UNLOCK_FAILED}
use Rattle.card.specs.Protect.{group_of, whole, guarded, mark_bits}
use Rattle.card.specs.Checks.{outside, crossing}
use Rattle.card.specs.Execute.{raise}
use Rattle.card.specs.Lock.{operation, changed}
use Rattle.card.specs.Frame.{block, token, finished, Turn, quiet, said}

-- ---- take a block

-- a number of 32 bits, high byte first
abbrev pub word32 : ℕ → List ℕ
word32 n = bytes 4 (bits 32 n)

-- 30: the lowest bit is the addressed group
abbrev pub mark_bytes : Core → ℕ → List ℕ
mark_bytes c address = bytes 4 (mark_bits (groups c.settings) c.marks (group_of address) 32)

-- a bit, and the transfer is held: it and later takes are silent
abbrev pub hold_read : Core → Bool → ℕ → ℕ → Turn
hold_read c multiple address bit = quiet (with_state (raise c bit) (Data (Blocks multiple address true))) Keep

-- the memory block; 18 goes on behind it, 17 returns to tran
abbrev pub read_block : Core → List ℕ → Bool → ℕ → Turn
read_block c memory multiple address =
    said (with_state c (cond multiple (Data (Blocks true (address + c.length) false)) Tran)) (block (take c.length (drop address memory)))

-- a block of its own, and back to tran
abbrev pub single : Core → List ℕ → Turn
single c payload = said (with_state c Tran) (block payload)

unfoldable pub take_source : Source → Core → List ℕ → Turn
take_source (Blocks multiple address held) c memory =
    cond held (quiet c Keep)
    (cond (outside (capacity c.settings) address) (hold_read c multiple address OUT_OF_RANGE)
    (cond (crossing c.length address) (hold_read c multiple address ADDRESS_ERROR) (read_block c memory multiple address)))
take_source (WriteProtect address) c memory = single c (mark_bytes c address)
take_source SdStatus c memory = single c (replicate 64 0)
take_source WrittenBlocks c memory = single c (word32 c.written)
take_source Scr c memory = single c scr_bytes
take_source Csd c memory = single c (csd_bytes c.csd)
take_source Cid c memory = single c (cid_bytes c.settings)

-- where no read is open row 5 has refused the call
unfoldable pub take_from : Open → Core → List ℕ → Turn
take_from Open.Nothing c memory = quiet c Keep
take_from (Read s) c memory = take_source s c memory
take_from (Write s) c memory = quiet c Keep
take_from (Busy s) c memory = quiet c Keep

-- ---- block in, of 24 and 25: its payload, and whether its check is right, or not judged

-- 010 and 101
abbrev pub ACCEPTED : ℕ
ACCEPTED = 2

abbrev pub REJECTED : ℕ
REJECTED = 5

abbrev pub hold_write : Core → Bool → ℕ → Core
hold_write c multiple address = with_state c (Rcv (sink multiple address true))

-- after a wrong check 25 is held, and 24 returns to tran
abbrev pub rejected : Core → Bool → ℕ → Core
rejected c multiple address = cond multiple (hold_write c multiple address) (with_state c Tran)

-- 24 goes to prg, 25 on to the next block
abbrev pub accepted : Core → Bool → ℕ → Core
accepted c multiple address =
    with_state (with_written c (c.written + 1)) (cond multiple (Rcv (sink true (address + BLOCK) false)) Prg)

-- stored at once
abbrev pub store_block : Core → Bool → ℕ → List ℕ → Turn
store_block c multiple address payload =
    record { core = accepted c multiple address; flag = Keep; message = token ACCEPTED; effect = Store address; payload = payload }

unfoldable pub write_into : Bool → ℕ → Bool → Bool → Core → List ℕ → Turn
write_into multiple address held right c payload =
    cond held (quiet c Keep)
    (cond (not right) (said (rejected c multiple address) (token REJECTED))
    (cond (outside (capacity c.settings) address) (quiet (hold_write (raise c OUT_OF_RANGE) multiple address) Keep)
    (cond (guarded (whole c.settings) c.marks address) (quiet (hold_write (raise c WP_VIOLATION) multiple address) Keep)
    (store_block c multiple address payload))))

-- ---- block in, of 42: the core is told whether the operation succeeds, and does not know the password

-- temporary protection goes, and with it the bit of the CSD
abbrev pub without_temporary : Settings → Settings
without_temporary s = record { blocks = s.blocks; polls = s.polls; cid = s.cid; permanent = s.permanent; temporary = false }

-- the record after an operation that succeeds
abbrev pub acted : Operation → Core → Core
acted ForceErase c = with_locked (with_settings c (without_temporary c.settings)) false
acted Lock c = with_locked c true
acted Unlock c = with_locked c false
acted ClearPassword c = with_locked c false
acted (SetPassword lock) c = with_locked c lock
acted Invalid c = c

-- what it does to memory and marks
abbrev pub effect_of : Operation → Effect
effect_of ForceErase = Effect.ForceErase
effect_of Lock = Nothing
effect_of Unlock = Nothing
effect_of ClearPassword = Nothing
effect_of (SetPassword lock) = Nothing
effect_of Invalid = Nothing

abbrev pub operate : Operation → Core → Turn
operate o c = record { core = with_state (acted o c) Prg; flag = Keep; message = token ACCEPTED; effect = effect_of o; payload = [] }

-- a wrong check goes as for 24; any other block, failing or not, is answered 010 and goes to prg
unfoldable pub lock_into : Bool → Bool → Core → List ℕ → Turn
lock_into right success c payload =
    cond (not right) (said (with_state c Tran) (token REJECTED))
    (cond success (operate (operation payload) c) (said (with_state (raise c LOCK_UNLOCK_FAILED) Prg) (token ACCEPTED)))

-- the password after it
unfoldable pub password_into : Open → Bool → Bool → Password → List ℕ → Password
password_into o right success p payload = cond (locking o && (right && success)) (changed (operation payload) p payload) p

-- ---- block in

abbrev pub write_sink : Sink → Bool → Bool → Core → List ℕ → Turn
write_sink (Single address held) right success c payload = write_into false address held right c payload
write_sink (Multiple address held) right success c payload = write_into true address held right c payload
write_sink LockUnlock right success c payload = lock_into right success c payload

unfoldable pub block_into : Open → Bool → Bool → Core → List ℕ → Turn
block_into Open.Nothing right success c payload = quiet c Keep
block_into (Read s) right success c payload = quiet c Keep
block_into (Write s) right success c payload = write_sink s right success c payload
block_into (Busy s) right success c payload = quiet c Keep

-- ---- busy over

unfoldable pub over_from : Open → Core → Turn
over_from Open.Nothing c = quiet c Keep
over_from (Read s) c = quiet c Keep
over_from (Write s) c = quiet c Keep
over_from (Busy next) c = said (with_state c next) finished
