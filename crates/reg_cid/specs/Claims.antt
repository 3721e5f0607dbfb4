-- What is proved of the CID beside the contracts: its round trips.
use Rattle.codec.specs.RoundTrip.{RoundTrip}
use Rattle.reg_cid.specs.Cid.{cid}

abbrev pub CidRoundTrip : Type 0
CidRoundTrip = RoundTrip cid
