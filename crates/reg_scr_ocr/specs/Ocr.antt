-- OCR: busy 31, capacity 30, window 23..15, rest reserved (house).
use Rattle.std.specs.Prelude.{List, [], ◌∷◌, ℕ, Result}
use Rattle.crc.specs.Bits.{digit}
use Rattle.codec.specs.declared.Refusal.{Refusal}
use Rattle.codec.specs.Answer.{Outcome, outcome_of}
use Rattle.codec.specs.Layout.{field, reserved}
use Rattle.codec.specs.Format.{Format, bare}
use Rattle.reg_scr_ocr.specs.declared.ocr.Ocr.{Ocr}

abbrev pub ocr : Format
ocr = record {
  size = 4;
  slots = field 1 ∷ field 1 ∷ reserved 6 ∷ field 9 ∷ reserved 15 ∷ [];
  ending = bare;
}

abbrev pub ocr_values : Ocr → List ℕ
ocr_values c = digit c.busy ∷ digit c.capacity ∷ c.window ∷ []

abbrev pub ocr_read : Result Ocr Refusal → Outcome (List ℕ)
ocr_read = outcome_of ocr_values
