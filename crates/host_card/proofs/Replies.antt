-- The card's answers as the host judges them, and what it learns.
use mathlib.Core.Path.{◌≡◌, refl}
use mathlib.Core.Bool.{Bool, true, false}
use mathlib.Core.List.{[], ◌∷◌}
use native.Mathlib.Omega.{arith}
use Rattle.crc.specs.Bits.{bits, number}
use Rattle.codec.specs.Answer.{done}
use Rattle.codec.specs.Layout.{fits}
use Rattle.codec.specs.Format.{decode}
use Rattle.codec.proofs.RoundTrip.{length-image, done-decode}
use Rattle.wire_response.specs.Response.{r6, r2_bytes, decode_r2}
use Rattle.wire_response.specs.Status.{short_status}
use Rattle.wire_response.proofs.RoundTrips.{r1_trip, r3_trip, r6_trip, r7_trip}
use Rattle.wire_response.proofs.Registers.{r2_trip}
use Rattle.reg_cid.specs.Cid.{cid, cid_values}
use Rattle.reg_cid.proofs.RoundTrips.{cid_round_trip}
use Rattle.reg_csd.specs.Csd.{csd, csd_values}
use Rattle.reg_csd.proofs.RoundTrips.{csd_round_trip}
use Rattle.card.specs.declared.Settings.{Settings}
use Rattle.card.specs.Settings.{allowed, csd_of, cid_bytes, csd_bytes}
use Rattle.card.proofs.Registers.{cid-fits, csd-fits, cid_shape, csd_shape}
use Rattle.host.specs.declared.Kind.TheVariants.{R1, R3, R6, R7, Cid, Csd}
use Rattle.host.specs.declared.Found.{Found}
use Rattle.host.specs.Reply.{Expected, Busy, with_rca, with_cid, with_csd, judge, learn}
use Rattle.host_card.proofs.Turns.{echo, marked, busy_ocr, ready_ocr, published, chosen}

-- ---- the short responses

pub echo-expected : judge R7 8 echo ≡ Expected
unfolding judge fits
echo-expected = rw (r7_trip.decode-encode (1 ∷ 0xAA ∷ []) refl)

pub marked-expected : (locked : Bool) → judge R1 55 (marked locked) ≡ Expected
unfolding judge fits
marked-expected false = rw ((r1_trip 55 (omega arith)).decode-encode (0x120 ∷ []) refl)
marked-expected true = rw ((r1_trip 55 (omega arith)).decode-encode (0x2000120 ∷ []) refl)

pub still-busy : judge R3 41 busy_ocr ≡ Busy
unfolding judge fits
still-busy = rw (r3_trip.decode-encode (0x00FF8000 ∷ []) refl)

pub ready-expected : judge R3 41 ready_ocr ≡ Expected
unfolding judge fits
ready-expected = rw (r3_trip.decode-encode (0x80FF8000 ∷ []) refl)

rca-read : decode r6 published ≡ done (1 ∷ short_status 1280 ∷ [])
unfolding fits short_status number bits
rca-read = r6_trip.decode-encode (1 ∷ short_status 1280 ∷ []) refl

pub rca-expected : judge R6 3 published ≡ Expected
unfolding judge
rca-expected = rw rca-read

pub rca-learnt : (f : Found) → learn R6 f published ≡ with_rca f 1
unfolding learn
rca-learnt f = rw rca-read

pub chosen-expected : (locked : Bool) → judge R1 7 (chosen locked) ≡ Expected
unfolding judge fits
chosen-expected false = rw ((r1_trip 7 (omega arith)).decode-encode (0x700 ∷ []) refl)
chosen-expected true = rw ((r1_trip 7 (omega arith)).decode-encode (0x2000700 ∷ []) refl)

-- ---- the registers

module _ (s : Settings) (permitted : allowed s ≡ true) where
  pub cid-back : decode cid (cid_bytes s) ≡ done (cid_values s.cid)
  cid-back = cid_round_trip.decode-encode _ (cid-fits s permitted)

  cid-read : decode_r2 (r2_bytes (cid_bytes s)) ≡ done (cid_bytes s)
  cid-read = r2_trip.decode-encode (cid_bytes s) (length-image cid _) (cid_shape _ (done-decode cid _ _ cid-back).sound)

  pub cid-expected : judge Cid 2 (r2_bytes (cid_bytes s)) ≡ Expected
  unfolding judge
  cid-expected = rw cid-read

  pub cid-learnt : (f : Found) → learn Cid f (r2_bytes (cid_bytes s)) ≡ with_cid f (cid_bytes s)
  unfolding learn
  cid-learnt f = rw cid-read

module _ (s : Settings) where
  pub csd-back : decode csd (csd_bytes (csd_of s)) ≡ done (csd_values (csd_of s))
  csd-back = csd_round_trip.decode-encode _ (csd-fits s)

  csd-read : decode_r2 (r2_bytes (csd_bytes (csd_of s))) ≡ done (csd_bytes (csd_of s))
  csd-read = r2_trip.decode-encode (csd_bytes (csd_of s)) (length-image csd _) (csd_shape _ (done-decode csd _ _ csd-back).sound)

  pub csd-expected : judge Csd 9 (r2_bytes (csd_bytes (csd_of s))) ≡ Expected
  unfolding judge
  csd-expected = rw csd-read

  pub csd-learnt : (f : Found) → learn Csd f (r2_bytes (csd_bytes (csd_of s))) ≡ with_csd f (csd_bytes (csd_of s))
  unfolding learn
  csd-learnt f = rw csd-read
