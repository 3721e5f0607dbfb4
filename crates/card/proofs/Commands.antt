-- Each command of the table that runs keeps a record sound, but for the application mark, and stays inside the card.
use mathlib.Core.Path.{◌≡◌, refl}
use mathlib.Core.Bool.{true, false, ◌&&◌, and-eq-true_iff}
use mathlib.Core.List.{[]}
use Prim.Native.Nat.{ℕ, ◌%◌, ◌<◌}
use native.Mathlib.Omega.{arith}
use borrow.Author.Tests.{leb-true}
use lib.Dec.{eqb, leb}
use Rattle.card.specs.declared.Source.{Source}
use Rattle.card.specs.declared.Source.TheVariants.{WriteProtect, WrittenBlocks}
use Rattle.card.specs.declared.Core.{Core}
use Rattle.card.specs.declared.command.Command.{Command}
use Rattle.card.specs.declared.command.Command.TheVariants.{GoIdleState, AllSendCid, SendRelativeAddr, SelectCard, DeselectCard, SendIfCond, SendCsd, SendCid, StopTransmission, SendStatus, AppCmd, GoInactiveState, SetBlocklen, ReadSingleBlock, ReadMultipleBlock, SendWriteProt, WriteBlock, WriteMultipleBlock, LockUnlock, SetWriteProt, ClrWriteProt, Erase, EraseWrBlkStart, EraseWrBlkEnd, SdStatus, SendNumWrBlocks, SendScr, SetWrBlkEraseCount, SetClrCardDetect, SdSendOpCond, ReadOcr, CrcOnOff, Unknown}
use Rattle.card.specs.declared.done.Response.TheVariants.{R1}
use Rattle.card.specs.Settings.{BLOCK, capacity}
use Rattle.card.specs.Table.{row, legal}
use Rattle.card.specs.Checks.{address_checks}
use Rattle.card.specs.Execute.{ran, set_blocklen, run_at}
use Rattle.card.proofs.Choices.{cond_elim}
use Rattle.card.proofs.Facts.{Sturdy}
use Rattle.card.proofs.Changes.{resize, in_mode, reset-sturdy}
use Rattle.card.proofs.Moves.{all, keeps_rca, selects}
use Rattle.card.proofs.Started.{Right, right, checked-right, address_in}
use Rattle.card.proofs.Opened.{moved-right, data_right, read_right, rcv-right, lock-right, marks-right}
use Rattle.card.proofs.Identified.{publish_right, poll-right}
use Rattle.card.proofs.Erased.{start_right, end-right, erase-right}

length-right : (c : Core) → Sturdy c → (a : ℕ) → Right c (set_blocklen c a)
length-right c f a =
    cond_elim (λ (d : Core). Right c (ran d R1)) (leb 1 a && leb a BLOCK)
    (λ e.
    let p = (and-eq-true_iff (leb 1 a) (leb a BLOCK)).0 e in
    right (resize c f a (record { low = leb-true 1 a p.0; high = leb-true a BLOCK p.1 })) refl refl)
    (λ e. right f refl refl)

-- x is the argument, a the address that it means
pub run-right : (k : Command) (c : Core) (x a : ℕ) → Sturdy c → legal k c.bus ≡ true → Right c (run_at k c x a)
unfolding run_at all keeps_rca selects row
run-right GoIdleState c x a f p = right (reset-sturdy c f.fixed f.marks) refl refl
run-right AllSendCid c x a f p = moved-right c f AllSendCid p _ refl
run-right SendRelativeAddr c x a f p = publish_right c f p x a
run-right SelectCard c x a f p = moved-right c f SelectCard p _ refl
run-right DeselectCard c x a f p = moved-right c f DeselectCard p _ refl
run-right SendIfCond c x a f p = right f refl refl
run-right SendCsd c x a f p = data_right c f SendCsd p Source.Csd refl refl (omega arith) _
run-right SendCid c x a f p = data_right c f SendCid p Source.Cid refl refl (omega arith) _
run-right StopTransmission c x a f p = moved-right c f StopTransmission p _ refl
run-right SendStatus c x a f p = right f refl refl
run-right AppCmd c x a f p = right f refl refl
run-right GoInactiveState c x a f p = moved-right c f GoInactiveState p _ refl
run-right SetBlocklen c x a f p = length-right c f x
run-right ReadSingleBlock c x a f p = read_right c f ReadSingleBlock p false a refl refl
run-right ReadMultipleBlock c x a f p = read_right c f ReadMultipleBlock p true a refl refl
run-right SendWriteProt c x a f p =
    let top = capacity c.settings in
    checked-right c (address_checks top a) _ f
    (λ e. data_right c f SendWriteProt p (WriteProtect a) refl refl (let h : a < top = address_in top a [] e in omega arith) _)
run-right WriteBlock c x a f p = rcv-right c f WriteBlock p false a refl refl
run-right WriteMultipleBlock c x a f p = rcv-right c f WriteMultipleBlock p true a refl refl
run-right LockUnlock c x a f p = lock-right c f LockUnlock p refl refl
run-right SetWriteProt c x a f p = marks-right c f SetWriteProt p true a refl
run-right ClrWriteProt c x a f p = marks-right c f ClrWriteProt p false a refl
run-right Erase c x a f p = erase-right c f p
run-right EraseWrBlkStart c x a f p = start_right c f a
run-right EraseWrBlkEnd c x a f p = end-right c f a
run-right SdStatus c x a f p = data_right c f SdStatus p Source.SdStatus refl refl (omega arith) _
run-right SendNumWrBlocks c x a f p = data_right c f SendNumWrBlocks p WrittenBlocks refl refl (omega arith) _
run-right SendScr c x a f p = data_right c f SendScr p Source.Scr refl refl (omega arith) _
run-right SetWrBlkEraseCount c x a f p = right f refl refl
run-right SetClrCardDetect c x a f p = right f refl refl
run-right SdSendOpCond c x a f p = poll-right c f x p
run-right ReadOcr c x a f p = right f refl refl
run-right CrcOnOff c x a f p = right (in_mode c f (eqb (x % 2) 1)) refl refl
run-right Unknown c x a f p = right f refl refl
