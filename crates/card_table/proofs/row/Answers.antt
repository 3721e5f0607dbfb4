-- Each row is right.
use Rattle.card.specs.Table.{row, has, lead}
use Rattle.card_table.specs.Packed.{lead_or, packed}
use Rattle.card_table.proofs.row.Goals as goal

pub returns-in-GoIdleState : goal.returns-in-GoIdleState
unfolding row has lead lead_or packed
returns-in-GoIdleState c = rw c.in-GoIdleState.is c.alike.ensures

pub returns-in-AllSendCid : goal.returns-in-AllSendCid
unfolding row has lead lead_or packed
returns-in-AllSendCid c = rw c.in-AllSendCid.is c.plain.ensures

pub returns-in-SendRelativeAddr : goal.returns-in-SendRelativeAddr
unfolding row has lead lead_or packed
returns-in-SendRelativeAddr c = rw c.in-SendRelativeAddr.is c.plain-in-SendRelativeAddr.ensures

pub returns-in-SelectCard : goal.returns-in-SelectCard
unfolding row has lead lead_or packed
returns-in-SelectCard c = rw c.in-SelectCard.is c.plain-in-SelectCard.ensures

pub returns-in-DeselectCard : goal.returns-in-DeselectCard
unfolding row has lead lead_or packed
returns-in-DeselectCard c = rw c.in-DeselectCard.is c.plain-in-DeselectCard.ensures

pub returns-in-SendIfCond : goal.returns-in-SendIfCond
unfolding row has lead lead_or packed
returns-in-SendIfCond c = rw c.in-SendIfCond.is c.plain-in-SendIfCond.ensures

pub returns-in-SendCsd : goal.returns-in-SendCsd
unfolding row has lead lead_or packed
returns-in-SendCsd c = rw c.in-SendCsd.is c.addressed.ensures

pub returns-in-SendCid : goal.returns-in-SendCid
unfolding row has lead lead_or packed
returns-in-SendCid c = rw c.in-SendCid.is c.addressed-in-SendCid.ensures

pub returns-in-StopTransmission : goal.returns-in-StopTransmission
unfolding row has lead lead_or packed
returns-in-StopTransmission c = rw c.in-StopTransmission.is c.alike-in-StopTransmission.ensures

pub returns-in-SendStatus : goal.returns-in-SendStatus
unfolding row has lead lead_or packed
returns-in-SendStatus c = rw c.in-SendStatus.is c.addressed-in-SendStatus.ensures

pub returns-in-AppCmd : goal.returns-in-AppCmd
unfolding row has lead lead_or packed
returns-in-AppCmd c = rw c.in-AppCmd.is c.app_cmd.ensures

pub returns-in-GoInactiveState : goal.returns-in-GoInactiveState
unfolding row has lead lead_or packed
returns-in-GoInactiveState c = rw c.in-GoInactiveState.is c.addressed-in-GoInactiveState.ensures

pub returns-in-SetBlocklen : goal.returns-in-SetBlocklen
unfolding row has lead lead_or packed
returns-in-SetBlocklen c = rw c.in-SetBlocklen.is c.alike-in-SetBlocklen.ensures

pub returns-in-ReadSingleBlock : goal.returns-in-ReadSingleBlock
unfolding row has lead lead_or packed
returns-in-ReadSingleBlock c = rw c.in-ReadSingleBlock.is c.alike-in-ReadSingleBlock.ensures

pub returns-in-ReadMultipleBlock : goal.returns-in-ReadMultipleBlock
unfolding row has lead lead_or packed
returns-in-ReadMultipleBlock c = rw c.in-ReadMultipleBlock.is c.alike-in-ReadMultipleBlock.ensures

pub returns-in-SendWriteProt : goal.returns-in-SendWriteProt
unfolding row has lead lead_or packed
returns-in-SendWriteProt c = rw c.in-SendWriteProt.is c.alike-in-SendWriteProt.ensures

pub returns-in-WriteBlock : goal.returns-in-WriteBlock
unfolding row has lead lead_or packed
returns-in-WriteBlock c = rw c.in-WriteBlock.is c.alike-in-WriteBlock.ensures

pub returns-in-WriteMultipleBlock : goal.returns-in-WriteMultipleBlock
unfolding row has lead lead_or packed
returns-in-WriteMultipleBlock c = rw c.in-WriteMultipleBlock.is c.alike-in-WriteMultipleBlock.ensures

pub returns-in-LockUnlock : goal.returns-in-LockUnlock
unfolding row has lead lead_or packed
returns-in-LockUnlock c = rw c.in-LockUnlock.is c.alike-in-LockUnlock.ensures

pub returns-in-SetWriteProt : goal.returns-in-SetWriteProt
unfolding row has lead lead_or packed
returns-in-SetWriteProt c = rw c.in-SetWriteProt.is c.alike-in-SetWriteProt.ensures

pub returns-in-ClrWriteProt : goal.returns-in-ClrWriteProt
unfolding row has lead lead_or packed
returns-in-ClrWriteProt c = rw c.in-ClrWriteProt.is c.alike-in-ClrWriteProt.ensures

pub returns-in-Erase : goal.returns-in-Erase
unfolding row has lead lead_or packed
returns-in-Erase c = rw c.in-Erase.is c.alike-in-Erase.ensures

pub returns-in-EraseWrBlkStart : goal.returns-in-EraseWrBlkStart
unfolding row has lead lead_or packed
returns-in-EraseWrBlkStart c = rw c.in-EraseWrBlkStart.is c.alike-in-EraseWrBlkStart.ensures

pub returns-in-EraseWrBlkEnd : goal.returns-in-EraseWrBlkEnd
unfolding row has lead lead_or packed
returns-in-EraseWrBlkEnd c = rw c.in-EraseWrBlkEnd.is c.alike-in-EraseWrBlkEnd.ensures

pub returns-in-SdStatus : goal.returns-in-SdStatus
unfolding row has lead lead_or packed
returns-in-SdStatus c = rw c.in-SdStatus.is c.alike-in-SdStatus.ensures

pub returns-in-SendNumWrBlocks : goal.returns-in-SendNumWrBlocks
unfolding row has lead lead_or packed
returns-in-SendNumWrBlocks c = rw c.in-SendNumWrBlocks.is c.alike-in-SendNumWrBlocks.ensures

pub returns-in-SendScr : goal.returns-in-SendScr
unfolding row has lead lead_or packed
returns-in-SendScr c = rw c.in-SendScr.is c.alike-in-SendScr.ensures

pub returns-in-SetWrBlkEraseCount : goal.returns-in-SetWrBlkEraseCount
unfolding row has lead lead_or packed
returns-in-SetWrBlkEraseCount c = rw c.in-SetWrBlkEraseCount.is c.alike-in-SetWrBlkEraseCount.ensures

pub returns-in-SetClrCardDetect : goal.returns-in-SetClrCardDetect
unfolding row has lead lead_or packed
returns-in-SetClrCardDetect c = rw c.in-SetClrCardDetect.is c.alike-in-SetClrCardDetect.ensures

pub returns-in-SdSendOpCond : goal.returns-in-SdSendOpCond
unfolding row has lead lead_or packed
returns-in-SdSendOpCond c = rw c.in-SdSendOpCond.is c.application.ensures

pub returns-in-ReadOcr : goal.returns-in-ReadOcr
unfolding row has lead lead_or packed
returns-in-ReadOcr c = rw c.in-ReadOcr.is c.plain-in-ReadOcr.ensures

pub returns-in-CrcOnOff : goal.returns-in-CrcOnOff
unfolding row has lead lead_or packed
returns-in-CrcOnOff c = rw c.in-CrcOnOff.is c.plain-in-CrcOnOff.ensures

pub returns-in-Unknown : goal.returns-in-Unknown
unfolding row has lead lead_or packed
returns-in-Unknown c = rw c.in-Unknown.is c.alike-in-Unknown.ensures
