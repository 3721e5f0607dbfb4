-- What is proved of the CSD beside the contracts: its round trips.
use Rattle.codec.specs.RoundTrip.{RoundTrip}
use Rattle.reg_csd.specs.Csd.{csd}

abbrev pub CsdRoundTrip : Type 0
CsdRoundTrip = RoundTrip csd
