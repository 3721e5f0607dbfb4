-- CID: MID 8, OID 16, PNM 40, PRV 8, PSN 32, reserved 4, MDT 12, CRC7, 1.
use Rattle.std.specs.Prelude.{List, [], ◌∷◌, ℕ, Result}
use Rattle.codec.specs.declared.Refusal.{Refusal}
use Rattle.codec.specs.Answer.{Outcome, outcome_of}
use Rattle.codec.specs.Layout.{field, reserved}
use Rattle.codec.specs.Format.{Format, crc7_from}
use Rattle.reg_cid.specs.declared.cid.Cid.{Cid}

abbrev pub cid : Format
cid = record {
  size = 16;
  slots = field 8 ∷ field 16 ∷ field 40 ∷ field 8 ∷ field 32 ∷ reserved 4 ∷ field 12 ∷ [];
  ending = crc7_from 0;
}

abbrev pub cid_values : Cid → List ℕ
cid_values c = c.mid ∷ c.oid ∷ c.pnm ∷ c.prv ∷ c.psn ∷ c.mdt ∷ []

abbrev pub cid_read : Result Cid Refusal → Outcome (List ℕ)
cid_read = outcome_of cid_values
