-- The readings, by computation.
use mathlib.Core.Path.{refl}
use mathlib.Core.Bool.{xor}
use Rattle.crc.specs.Bits.{bits, number, bits_of, bytes}
use Rattle.crc.specs.Crc.{◌⊕◌, shift, turns as rounds, run, crc, poly7}
use Rattle.crc.specs.Detection.{same}
use Rattle.codec.specs.Layout.{width, write, read, judged}
use Rattle.codec.specs.Format.{ended, image, right, decode}
use Rattle.wire_response.specs.Response.{decode_r2}
use Rattle.host.specs.Sequence.{row}
use Rattle.host.specs.Reply.{judge, learn}
use Rattle.host.specs.Host.{unsound, end, counted, sends, goes, follows, answered, hears, turns, step}
use Rattle.host.specs.Readings.{Readings}

pub readings : Readings
unfolding xor bits number bits_of bytes ◌⊕◌ shift rounds run crc poly7 same width write read judged ended image right decode decode_r2 row judge learn unsound end counted sends goes follows answered hears turns step
readings = refl
