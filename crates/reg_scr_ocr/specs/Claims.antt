-- What is claimed of SCR and OCR, and proved in proofs/: the round trips.
use Rattle.codec.specs.RoundTrip.{RoundTrip}
use Rattle.reg_scr_ocr.specs.Scr.{scr}
use Rattle.reg_scr_ocr.specs.Ocr.{ocr}

abbrev pub ScrRoundTrip : Type 0
ScrRoundTrip = RoundTrip scr

abbrev pub OcrRoundTrip : Type 0
OcrRoundTrip = RoundTrip ocr
