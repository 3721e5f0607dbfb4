-- The states of 01's table by number, what of them counts in SPI mode, and what a state has open: every question that is asked of a
-- state goes by these.
use Rattle.std.specs.Prelude.{Bool, true, false, cond, not, ◌||◌, ℕ, eqb}
use Rattle.card.specs.declared.Source.{Source}
use Rattle.card.specs.declared.Source.TheVariants.{Blocks, WriteProtect, SdStatus, WrittenBlocks, Scr, Csd, Cid}
use Rattle.card.specs.declared.Sink.{Sink}
use Rattle.card.specs.declared.Sink.TheVariants.{Single, Multiple, LockUnlock}
use Rattle.card.specs.declared.State.{State}
use Rattle.card.specs.declared.State.TheVariants.{Idle, Ready, Ident, Stby, Tran, Data, Rcv, Prg, Dis, Ina}
use Rattle.card.specs.declared.Mode.{Mode}
use Rattle.card.specs.declared.Mode.TheVariants.{Sd, Spi}
use Rattle.card.specs.declared.Open.{Open}
use Rattle.card.specs.declared.Open.TheVariants.{Nothing, Read, Write, Busy}

-- ---- numbers: bits 12..9 of the status; ina answers nothing, and has the next one

abbrev pub idle : ℕ
idle = 0

abbrev pub ready : ℕ
ready = 1

abbrev pub ident : ℕ
ident = 2

abbrev pub stby : ℕ
stby = 3

abbrev pub tran : ℕ
tran = 4

abbrev pub «data» : ℕ
«data» = 5

abbrev pub rcv : ℕ
rcv = 6

abbrev pub prg : ℕ
prg = 7

abbrev pub dis : ℕ
dis = 8

abbrev pub ina : ℕ
ina = 9

abbrev pub number : State → ℕ
number Idle = idle
number Ready = ready
number Ident = ident
number Stby = stby
number Tran = tran
number (Data s) = «data»
number (Rcv s) = rcv
number Prg = prg
number Dis = dis
number Ina = ina

-- the state of a number; data and rcv are the transfer that t is
unfoldable pub arrive : ℕ → State → State
arrive n t =
    cond (eqb n idle) Idle (cond (eqb n ready) Ready (cond (eqb n ident) Ident (cond (eqb n stby) Stby (cond (eqb n tran) Tran
    (cond (eqb n «data») t (cond (eqb n rcv) t (cond (eqb n prg) Prg (cond (eqb n dis) Dis Ina))))))))

-- ---- the bus mode (02, order 5)

abbrev pub in_spi : Mode → Bool
in_spi Sd = false
in_spi (Spi checks) = true

-- whether CRC7 and CRC16 are judged: always in SD mode
abbrev pub checking : Mode → Bool
checking Sd = true
checking (Spi checks) = checks

-- command 0 turns the checks off, and leaves the mode
abbrev pub unchecked : Mode → Mode
unchecked Sd = Sd
unchecked (Spi checks) = Spi false

-- what counts of a state in SPI mode: idle, an open transfer, busy; every other state is tran there, that is none of these
abbrev pub spi_number : State → ℕ
spi_number Idle = idle
spi_number Ready = tran
spi_number Ident = tran
spi_number Stby = tran
spi_number Tran = tran
spi_number (Data s) = «data»
spi_number (Rcv s) = rcv
spi_number Prg = prg
spi_number Dis = prg
spi_number Ina = tran

-- the number by which the table of a mode goes
unfoldable pub number_in : Bool → State → ℕ
number_in spi s = cond spi (spi_number s) (number s)

-- bit 8: ready for data, except in prg and dis (house)
abbrev pub ready_for : ℕ → Bool
ready_for n = not (eqb n prg || eqb n dis)

-- ---- what is open

abbrev pub open_of : State → Open
open_of Idle = Nothing
open_of Ready = Nothing
open_of Ident = Nothing
open_of Stby = Nothing
open_of Tran = Nothing
open_of (Data s) = Read s
open_of (Rcv s) = Write s
open_of Prg = Busy Tran
open_of Dis = Busy Stby
open_of Ina = Nothing

abbrev pub reading : Open → Bool
reading Nothing = false
reading (Read s) = true
reading (Write s) = false
reading (Busy s) = false

abbrev pub writing : Open → Bool
writing Nothing = false
writing (Read s) = false
writing (Write s) = true
writing (Busy s) = false

abbrev pub busy : Open → Bool
busy Nothing = false
busy (Read s) = false
busy (Write s) = false
busy (Busy s) = true

-- the block of 42 is awaited
abbrev pub sink_locks : Sink → Bool
sink_locks (Single address held) = false
sink_locks (Multiple address held) = false
sink_locks LockUnlock = true

-- the blocks of 25 are awaited
abbrev pub sink_multiple : Sink → Bool
sink_multiple (Single address held) = false
sink_multiple (Multiple address held) = true
sink_multiple LockUnlock = false

abbrev pub writing_multiple : Open → Bool
writing_multiple Nothing = false
writing_multiple (Read s) = false
writing_multiple (Write s) = sink_multiple s
writing_multiple (Busy s) = false

abbrev pub locking : Open → Bool
locking Nothing = false
locking (Read s) = false
locking (Write s) = sink_locks s
locking (Busy s) = false

-- ---- the transfer's address; A13, A22, A51, 42 and the registers have none

abbrev pub source_address : Source → ℕ
source_address (Blocks multiple address held) = address
source_address (WriteProtect address) = address
source_address SdStatus = 0
source_address WrittenBlocks = 0
source_address Scr = 0
source_address Csd = 0
source_address Cid = 0

abbrev pub sink_address : Sink → ℕ
sink_address (Single address held) = address
sink_address (Multiple address held) = address
sink_address LockUnlock = 0

abbrev pub transfer_address : Open → ℕ
transfer_address Nothing = 0
transfer_address (Read s) = source_address s
transfer_address (Write s) = sink_address s
transfer_address (Busy s) = 0

-- the write transfer of 24, or of 25
abbrev pub sink : Bool → ℕ → Bool → Sink
sink multiple address held = cond multiple (Multiple address held) (Single address held)
