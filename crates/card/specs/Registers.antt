-- The registers on the wire: the R2 to 2, 9 and 10 decodes to exactly the CID or CSD fields of the record.
use Rattle.std.specs.Prelude.{◌≡◌, Bool, true, List, ℕ, take}
use Rattle.std.proofs.Math.Option.{none}
use Rattle.codec.specs.Answer.{Outcome, done, refused}
use Rattle.codec.specs.Format.{Format, decode}
use Rattle.wire_frame.specs.Command.{frame_check, good}
use Rattle.wire_response.specs.Response.{r2, decode_r2}
use Rattle.reg_cid.specs.Cid.{cid, cid_values}
use Rattle.reg_csd.specs.Csd.{csd, csd_values}
use Rattle.card.specs.declared.Mode.TheVariants.{Sd}
use Rattle.card.specs.declared.State.TheVariants.{Ready, Stby}
use Rattle.card.specs.Table.{own}
use Rattle.card.specs.Step.{World, Result, command_frame, sent, frame_refusal, step}

-- a host's way: the R2's 16 bytes, straight into the register's decoder
abbrev pub read_register : Format → List ℕ → Outcome (List ℕ)
read_register f s = elim (decode_r2 s) [ done register ↦ decode f register | refused k ↦ refused k ]

-- in SD mode a well-formed frame of this index and argument, in a call that is not refused: so the record is sound
pub record Handed (w : World) (index argument : ℕ) (frame out : List ℕ) : Type 0 where
  pub mode : w.card.core.bus.mode ≡ Sd
  pub check : frame_check frame ≡ good index argument
  pub passed : frame_refusal w frame out ≡ none

-- the call answers an R2 at the front of the buffer, which decodes to these fields
pub record Reads (f : Format) (fields : List ℕ) (r : Result) : Type 0 where
  pub answer : r.answer ≡ done (sent r2.size)
  pub register : read_register f (take r2.size r.out) ≡ done fields

pub record RegistersRead (w : World) (argument : ℕ) (frame : List ℕ) (low : Bool) (out : List ℕ) : Type 0 where
  -- 2 in ready
  pub all_send_cid : w.card.core.bus.state ≡ Ready → Handed w 2 argument frame out
      → Reads cid (cid_values w.card.core.settings.cid) (step w (command_frame frame low out))
  -- 10 and 9 in stby, to the card's own address
  pub send_cid : w.card.core.bus.state ≡ Stby → own w.card.core.bus argument ≡ true → Handed w 10 argument frame out
      → Reads cid (cid_values w.card.core.settings.cid) (step w (command_frame frame low out))
  pub send_csd : w.card.core.bus.state ≡ Stby → own w.card.core.bus argument ≡ true → Handed w 9 argument frame out
      → Reads csd (csd_values w.card.core.csd) (step w (command_frame frame low out))

-- over every record that is sound, not only those that histories reach
abbrev pub ReadsRegisters : Type 0
ReadsRegisters = (w : World) (argument : ℕ) (frame : List ℕ) (low : Bool) (out : List ℕ) → RegistersRead w argument frame low out
