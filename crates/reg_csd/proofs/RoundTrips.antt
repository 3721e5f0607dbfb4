-- The round trips: the slots and the check fill the bytes.
use Rattle.codec.specs.Layout.{width}
use Rattle.codec.specs.Format.{end_width, sized}
use Rattle.codec.proofs.RoundTrip.{round_trip}
use Rattle.reg_csd.specs.Csd.{csd}
use Rattle.reg_csd.specs.Claims.{CsdRoundTrip}

pub csd_round_trip : CsdRoundTrip
unfolding sized width end_width
csd_round_trip = round_trip csd tt
