-- The round trips: the slots and the check fill the bytes.
use Rattle.codec.specs.Layout.{width}
use Rattle.codec.specs.Format.{end_width, sized}
use Rattle.codec.proofs.RoundTrip.{round_trip}
use Rattle.reg_cid.specs.Cid.{cid}
use Rattle.reg_cid.specs.Claims.{CidRoundTrip}

pub cid_round_trip : CidRoundTrip
unfolding sized width end_width
cid_round_trip = round_trip cid tt
