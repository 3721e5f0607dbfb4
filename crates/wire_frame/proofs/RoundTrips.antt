-- The round trips of command frames.
use Rattle.codec.specs.Layout.{width}
use Rattle.codec.specs.Format.{sized, end_width}
use Rattle.codec.proofs.RoundTrip.{round_trip}
use Rattle.wire_frame.specs.Command.{command}
use Rattle.wire_frame.specs.Claims.{CommandRoundTrip}

pub command_trip : CommandRoundTrip
unfolding sized width end_width
command_trip = round_trip command tt
