-- SCR: structure 4, version 4, data after erase 1, security 3, widths 4, rest reserved (house).
use Rattle.std.specs.Prelude.{List, [], ◌∷◌, ℕ, Result}
use Rattle.crc.specs.Bits.{digit}
use Rattle.codec.specs.declared.Refusal.{Refusal}
use Rattle.codec.specs.Answer.{Outcome, outcome_of}
use Rattle.codec.specs.Layout.{field, reserved}
use Rattle.codec.specs.Format.{Format, bare}
use Rattle.reg_scr_ocr.specs.declared.scr.Scr.{Scr}

abbrev pub scr : Format
scr = record {
  size = 8;
  slots = field 4 ∷ field 4 ∷ field 1 ∷ field 3 ∷ field 4 ∷ reserved 48 ∷ [];
  ending = bare;
}

abbrev pub scr_values : Scr → List ℕ
scr_values c =
    c.scr_structure ∷ c.sd_spec ∷ digit c.data_stat_after_erase ∷ c.sd_security ∷ c.sd_bus_widths ∷ []

abbrev pub scr_read : Result Scr Refusal → Outcome (List ℕ)
scr_read = outcome_of scr_values
