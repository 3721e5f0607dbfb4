-- The round trips of the short responses; R1's for every index.
use Rattle.codec.specs.Layout.{width}
use Rattle.codec.specs.Format.{sized, end_width}
use Rattle.codec.proofs.RoundTrip.{round_trip}
use Rattle.wire_response.specs.Response.{r1, r3, r6, r7}
use Rattle.wire_response.specs.Claims.{R1RoundTrip, R3RoundTrip, R6RoundTrip, R7RoundTrip}

pub r1_trip : R1RoundTrip
unfolding sized width end_width
r1_trip index h = round_trip (r1 index) tt

pub r3_trip : R3RoundTrip
unfolding sized width end_width
r3_trip = round_trip r3 tt

pub r6_trip : R6RoundTrip
unfolding sized width end_width
r6_trip = round_trip r6 tt

pub r7_trip : R7RoundTrip
unfolding sized width end_width
r7_trip = round_trip r7 tt
