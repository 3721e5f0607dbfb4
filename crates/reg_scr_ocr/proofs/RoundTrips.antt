-- The round trips: the slots and the check fill the bytes.
use Rattle.codec.specs.Layout.{width}
use Rattle.codec.specs.Format.{end_width, sized}
use Rattle.codec.proofs.RoundTrip.{round_trip}
use Rattle.reg_scr_ocr.specs.Scr.{scr}
use Rattle.reg_scr_ocr.specs.Ocr.{ocr}
use Rattle.reg_scr_ocr.specs.Claims.{ScrRoundTrip, OcrRoundTrip}

pub scr_round_trip : ScrRoundTrip
unfolding sized width end_width
scr_round_trip = round_trip scr tt

pub ocr_round_trip : OcrRoundTrip
unfolding sized width end_width
ocr_round_trip = round_trip ocr tt
