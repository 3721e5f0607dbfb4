-- What each command does when it runs (01, "Transitions", "Start checks", "Erase"). The bus mode is asked by 0 and A41 alone; where a
-- command leads in it is the table's matter.
use Rattle.std.specs.Prelude.{Bool, true, false, cond, not, ◌&&◌, ◌||◌, List, ℕ, ◌+◌, ◌-◌, ◌/◌, ◌%◌, ◌^◌, eqb, leb, ltb, None, Some}
use Rattle.std.proofs.Math.Option.{none, some}
use Rattle.card.specs.declared.Source.{Source}
use Rattle.card.specs.declared.Source.TheVariants.{Blocks, WriteProtect, WrittenBlocks}
use Rattle.card.specs.declared.Sink.{Sink}
use Rattle.card.specs.declared.State.{State}
use Rattle.card.specs.declared.Mode.TheVariants.{Spi}
use Rattle.card.specs.declared.State.TheVariants.{Idle, Ready, Tran, Data, Rcv, Ina}
use Rattle.card.specs.declared.Core.{Core}
use Rattle.card.specs.declared.command.Command.{Command}
use Rattle.card.specs.declared.command.Command.TheVariants.{GoIdleState, AllSendCid, SendRelativeAddr, SelectCard, DeselectCard, SendIfCond, SendCsd, SendCid, StopTransmission, SendStatus, AppCmd, GoInactiveState, SetBlocklen, ReadSingleBlock, ReadMultipleBlock, SendWriteProt, WriteBlock, WriteMultipleBlock, LockUnlock, SetWriteProt, ClrWriteProt, Erase, EraseWrBlkStart, EraseWrBlkEnd, SdStatus, SendNumWrBlocks, SendScr, SetWrBlkEraseCount, SetClrCardDetect, SdSendOpCond, ReadOcr, CrcOnOff, Unknown}
use Rattle.card.specs.declared.done.Response.{Response}
use Rattle.card.specs.declared.done.Response.TheVariants.{Nothing, R1, R6, Cid, Csd, R3, R7}
use Rattle.card.specs.declared.done.Effect.{Effect}
use Rattle.card.specs.declared.done.Effect.TheVariants.{Sweep, Protect}
use Rattle.card.specs.declared.done.Done.{Done}
use Rattle.card.specs.Settings.{BLOCK, capacity, address_of, ocr_of}
use Rattle.card.specs.Record.{with_kept, with_erase, with_length, with_written, with_state, with_rca, with_polls, with_mode, no_erase, is_set, address}
use Rattle.card.specs.State.{idle, number, in_spi, unchecked, sink}
use Rattle.card.specs.Status.{no_bits, only, join, BLOCK_LEN_ERROR, ERASE_SEQ_ERROR, ERASE_PARAM, WP_ERASE_SKIP, ERASE_RESET}
use Rattle.card.specs.Table.{row, after}
use Rattle.card.specs.Protect.{whole, group_of, guarded, any_guarded}
use Rattle.card.specs.Checks.{Check, first_failure, address_checks, read_checks, write_checks}

-- a command that leaves memory and protection marks as they are
abbrev pub ran : Core → Response → Done
ran c r = record { core = c; response = r; effect = Effect.Nothing }

-- the record with a status bit set, by its number
abbrev pub raise : Core → ℕ → Core
raise c n = with_kept c (join c.kept (only n))

-- a plain move, with no transfer of its own
abbrev pub moved : Command → Core → Core
moved k c = with_state c (after k c.bus c.bus.state)

-- a move that opens a transfer
abbrev pub opening : Command → Core → State → Core
opening k c t = with_state c (after k c.bus t)

-- a start check that fails sets its bit, shown in that command's R1, and the card stays in tran (house)
abbrev pub checked : Core → List Check → Done → Done
checked c checks d = elim (first_failure checks) [ none ↦ d | some n ↦ ran (raise c n) R1 ]

-- ---- command 0, and the start of a power-up

abbrev pub reset : Core → Core
reset c = record {
  settings = c.settings;
  csd = c.csd;
  bus = record { mode = unchecked c.bus.mode; state = Idle; rca = 0; published = c.bus.published; polls = c.settings.polls; app = false };
  kept = no_bits;
  erase = no_erase;
  length = BLOCK;
  written = 0;
  locked = c.locked;
  marks = c.marks;
}

-- ---- identification

-- one more than the last published; FFFFh is followed by 0001h
abbrev pub next_rca : ℕ → ℕ
next_rca last = cond (eqb last 0xFFFF) 1 (last + 1)

-- 8: voltage field 1 is accepted
abbrev pub send_if_cond : Core → ℕ → Done
send_if_cond c argument = ran c (R7 (cond (eqb (argument / 2 ^ 8 % 2 ^ 4) 1) 1 0) (argument % 2 ^ 8))

-- A41: bits 23..0 of the argument; and those that share a bit with FF8000h
abbrev pub window : ℕ → ℕ
window argument = argument % 2 ^ 24

abbrev pub fitting : ℕ → ℕ
fitting argument = window argument / 2 ^ 15

unfoldable pub send_op_cond : Core → ℕ → Done
send_op_cond c argument =
    cond (eqb (window argument) 0) (ran c (R3 (ocr_of (eqb c.bus.polls 0))))
    (cond (eqb (fitting argument) 0) (ran (with_state c Ina) Nothing)
    (cond (eqb c.bus.polls 0) (ran (with_state c Ready) (R3 (ocr_of true)))
    (ran (with_polls c (c.bus.polls - 1)) (R3 (ocr_of false)))))

-- in SPI mode no window is looked at: a poll is used up, or the card leaves idle; outside idle nothing is to be done
unfoldable pub send_op_cond_spi : Core → Core
send_op_cond_spi c =
    cond (eqb (number c.bus.state) idle) (cond (eqb c.bus.polls 0) (with_state c Tran) (with_polls c (c.bus.polls - 1))) c

unfoldable pub sd_send_op_cond : Core → ℕ → Done
sd_send_op_cond c argument = cond (in_spi c.bus.mode) (ran (send_op_cond_spi c) R1) (send_op_cond c argument)

-- ---- SPI mode alone

-- 58: bit 31 outside idle only
abbrev pub read_ocr : Core → Done
read_ocr c = ran c (R3 (ocr_of (not (eqb (number c.bus.state) idle))))

-- 59: bit 0 of the argument turns the checks on
abbrev pub crc_on_off : Core → ℕ → Done
crc_on_off c argument = ran (with_mode c (Spi (eqb (argument % 2) 1))) R1

-- ---- transfers

-- 16: 1..512, of the whole argument
abbrev pub set_blocklen : Core → ℕ → Done
set_blocklen c argument = ran (cond (leb 1 argument && leb argument BLOCK) (with_length c argument) (raise c BLOCK_LEN_ERROR)) R1

-- 17 and 18
abbrev pub read_blocks : Command → Core → Bool → ℕ → Done
read_blocks k c multiple a = checked c (read_checks (capacity c.settings) c.length a) (ran (opening k c (Data (Blocks multiple a false))) R1)

-- 24 and 25: A22's count starts anew where a write command reaches rcv
abbrev pub write_blocks : Command → Core → Bool → ℕ → Done
write_blocks k c multiple a = checked c (write_checks (capacity c.settings) c.length (guarded (whole c.settings) c.marks a) a) (ran (with_written (opening k c (Rcv (sink multiple a false))) 0) R1)

-- 28 sets the mark of a group, 29 clears it
abbrev pub set_mark : Command → Core → Bool → ℕ → Done
set_mark k c value a = checked c (address_checks (capacity c.settings) a) (record { core = moved k c; response = R1; effect = Protect (group_of a) value })

-- ---- erase

abbrev pub drop_erase : Core → Core
drop_erase c = with_erase c no_erase

-- some erase address is marked
abbrev pub pending : Core → Bool
pending c = is_set c.erase.first || is_set c.erase.second

-- any other command that runs, but 0 and 13, clears pending erase marks with ERASE_RESET
unfoldable pub settled : Command → Core → Core
settled k c = cond (row k).keeps_erase c (cond (pending c) (drop_erase (raise c ERASE_RESET)) c)

-- 32; a repeated one drops the second
unfoldable pub erase_start : Core → ℕ → Done
erase_start c a = checked c (address_checks (capacity c.settings) a) (ran (with_erase c (record { first = Some a; second = None })) R1)

-- 33, judged before its address: without 32 it is ERASE_SEQ_ERROR
unfoldable pub erase_end : Core → ℕ → Done
erase_end c a =
    cond (is_set c.erase.first)
    (checked c (address_checks (capacity c.settings) a) (ran (with_erase c (record { first = c.erase.first; second = Some a })) R1))
    (ran (drop_erase (raise c ERASE_SEQ_ERROR)) R1)

-- a bit for protected blocks that are skipped
unfoldable pub skipped : Core → ℕ → ℕ → Core
skipped c first count = cond (any_guarded (whole c.settings) c.marks first count) (raise c WP_ERASE_SKIP) c

-- every block from that of the first address through that of the second
abbrev pub erased : Core → ℕ → ℕ → Done
erased c from to =
    let first = from / BLOCK in
    let count = to / BLOCK + 1 - first in
    record { core = moved Erase (drop_erase (skipped c first count)); response = R1; effect = Sweep first count }

-- 38 without both is ERASE_SEQ_ERROR; a second address below the first ERASE_PARAM; both stay in tran
unfoldable pub erase : Core → Done
erase c =
    cond (is_set c.erase.first && is_set c.erase.second)
    (cond (ltb (address c.erase.second) (address c.erase.first)) (ran (drop_erase (raise c ERASE_PARAM)) R1)
    (erased c (address c.erase.first) (address c.erase.second)))
    (ran (drop_erase (raise c ERASE_SEQ_ERROR)) R1)

-- ---- the commands: by the argument, and by the byte address a that it means

unfoldable pub run_at : Command → Core → ℕ → ℕ → Done
run_at GoIdleState c argument a = ran (reset c) Nothing
run_at AllSendCid c argument a = ran (moved AllSendCid c) Cid
run_at SendRelativeAddr c argument a = ran (moved SendRelativeAddr (with_rca c (next_rca c.bus.published))) R6
run_at SelectCard c argument a = ran (moved SelectCard c) R1
run_at DeselectCard c argument a = ran (moved DeselectCard c) Nothing
run_at SendIfCond c argument a = send_if_cond c argument
run_at SendCsd c argument a = ran (opening SendCsd c (Data Source.Csd)) Csd
run_at SendCid c argument a = ran (opening SendCid c (Data Source.Cid)) Cid
run_at StopTransmission c argument a = ran (moved StopTransmission c) R1
run_at SendStatus c argument a = ran c R1
run_at AppCmd c argument a = ran c R1
run_at GoInactiveState c argument a = ran (moved GoInactiveState c) Nothing
run_at SetBlocklen c argument a = set_blocklen c argument
run_at ReadSingleBlock c argument a = read_blocks ReadSingleBlock c false a
run_at ReadMultipleBlock c argument a = read_blocks ReadMultipleBlock c true a
run_at SendWriteProt c argument a = checked c (address_checks (capacity c.settings) a) (ran (opening SendWriteProt c (Data (WriteProtect a))) R1)
run_at WriteBlock c argument a = write_blocks WriteBlock c false a
run_at WriteMultipleBlock c argument a = write_blocks WriteMultipleBlock c true a
run_at LockUnlock c argument a = ran (opening LockUnlock c (Rcv Sink.LockUnlock)) R1
run_at SetWriteProt c argument a = set_mark SetWriteProt c true a
run_at ClrWriteProt c argument a = set_mark ClrWriteProt c false a
run_at Erase c argument a = erase c
run_at EraseWrBlkStart c argument a = erase_start c a
run_at EraseWrBlkEnd c argument a = erase_end c a
run_at SdStatus c argument a = ran (opening SdStatus c (Data Source.SdStatus)) R1
run_at SendNumWrBlocks c argument a = ran (opening SendNumWrBlocks c (Data WrittenBlocks)) R1
run_at SendScr c argument a = ran (opening SendScr c (Data Source.Scr)) R1
run_at SetWrBlkEraseCount c argument a = ran c R1
run_at SetClrCardDetect c argument a = ran c R1
run_at SdSendOpCond c argument a = sd_send_op_cond c argument
run_at ReadOcr c argument a = read_ocr c
run_at CrcOnOff c argument a = crc_on_off c argument
run_at Unknown c argument a = ran c Nothing

abbrev pub run : Command → Core → ℕ → Done
run k c argument = run_at k c argument (address_of c.settings argument)
