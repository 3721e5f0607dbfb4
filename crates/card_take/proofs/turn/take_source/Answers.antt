-- Source by source.
use mathlib.Core.Path.{refl}
use lib.Dec.{lit≤}
use lib.ListN.{replicate}
use Rattle.crc.specs.Bits.{bits}
use Rattle.codec.proofs.RoundTrip.{length-image}
use Rattle.reg_cid.specs.Cid.{cid}
use Rattle.reg_csd.specs.Csd.{csd}
use Rattle.card.specs.declared.State.TheVariants.{Tran}
use Rattle.card.specs.Settings.{cid_bytes, csd_bytes, scr_bytes}
use Rattle.card.specs.Data.{take_source}
use Rattle.card_take.proofs.Sending.{block-sent, word-sent, register-sent}
use Rattle.card_take.proofs.turn.take_source.Goals as goal

pub returns-in-WriteProtect : goal.returns-in-WriteProtect
unfolding take_source
returns-in-WriteProtect c =
    let told = c in
    let start = told in
    let send = c.send_marks in
    rw told.in-WriteProtect.is
    (word-sent send.result start.args.card Tran start.args.memory.now _ _ start.requires.room _ (send.ensures start.args.memory.now))

pub returns-in-SdStatus : goal.returns-in-SdStatus
unfolding take_source
returns-in-SdStatus c =
    let told = c in
    let start = told in
    let send = c.send_status in
    rw told.in-SdStatus.is
    (block-sent send.result start.args.card Tran start.args.memory.now _ _ start.requires.room (replicate 64 0) (lit≤ tt) (lit≤ tt) _ _ refl refl
    (send.ensures start.args.memory.now))

pub returns-in-WrittenBlocks : goal.returns-in-WrittenBlocks
unfolding take_source
returns-in-WrittenBlocks c =
    let told = c in
    let start = told in
    let send = c.send_word in
    rw told.in-WrittenBlocks.is
    (word-sent send.result start.args.card Tran start.args.memory.now _ _ start.requires.room (bits 32 start.args.card.core.written)
    (send.ensures start.args.memory.now))

pub returns-in-Scr : goal.returns-in-Scr
unfolding take_source
returns-in-Scr c =
    let told = c in
    let start = told in
    let send = c.send_scr in
    rw told.in-Scr.is
    (block-sent send.result start.args.card Tran start.args.memory.now _ _ start.requires.room scr_bytes (lit≤ tt) (lit≤ tt) _ _ refl refl
    (send.ensures start.args.memory.now))

pub returns-in-Csd : goal.returns-in-Csd
unfolding take_source
returns-in-Csd c =
    let told = c in
    let start = told in
    let send = c.send_csd in
    rw told.in-Csd.is
    (register-sent send.result start.args.card Tran start.args.memory.now _ _ start.requires.room (csd_bytes start.args.card.core.csd) (length-image csd _) (send.ensures start.args.memory.now))

pub returns-in-Cid : goal.returns-in-Cid
unfolding take_source
returns-in-Cid c =
    let told = c in
    let start = told in
    let send = c.send_cid in
    rw told.in-Cid.is
    (register-sent send.result start.args.card Tran start.args.memory.now _ _ start.requires.room (cid_bytes start.args.card.core.settings) (length-image cid _) (send.ensures start.args.memory.now))
