-- `fields` takes the fields of CSD out of its two words.
use mathlib.Core.Path.{refl}
use native.Mathlib.Nat.{div-one}
use lib.ListN.{take, drop}
use Rattle.codec.specs.Layout.{width}
use Rattle.codec.proofs.Words.{within}
use Rattle.reg_csd.specs.Csd.{csd_slots}
use Rattle.reg_cid.proofs.Words.{read-across, flag-part}
use Rattle.reg_csd_decode.proofs.fields.Goals as goal

pub returns : goal.returns
unfolding width within
returns c =
    let m = c.args.words.first in
    let n = c.args.words.rest in
    rw (read-across (take 12 csd_slots) (drop 13 csd_slots) 10 2 m n refl refl)
    (simp (
      c.field.ensures,
      c.field-2.ensures,
      c.field-3.ensures,
      c.field-4.ensures,
      c.field-5.ensures,
      c.field-6.ensures,
      flag-part m 15 _ c.field-7.ensures,
      flag-part m 14 _ c.field-8.ensures,
      flag-part m 13 _ c.field-9.ensures,
      flag-part m 12 _ c.field-10.ensures,
      c.field-11.ensures,
      c.field-12.ensures,
      c.field-13.ensures,
      c.field-14.ensures,
      c.field-15.ensures,
      c.field-16.ensures,
      c.field-17.ensures,
      flag-part n 38 _ c.field-18.ensures,
      c.field-19.ensures,
      c.field-20.ensures,
      flag-part n 23 _ c.field-21.ensures,
      c.field-22.ensures,
      c.field-23.ensures,
      flag-part n 13 _ c.field-24.ensures,
      flag-part n 7 _ c.field-25.ensures,
      flag-part n 6 _ c.field-26.ensures,
      flag-part n 5 _ c.field-27.ensures,
      flag-part n 4 _ c.field-28.ensures,
      c.field-29.ensures,
      div-one,
    ))
