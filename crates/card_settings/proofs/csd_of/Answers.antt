-- The pair's parts go into the CSD.
use mathlib.Core.Path.{◌≡◌, refl}
use Rattle.std.specs.Prelude.{Option, Some, None}
use Rattle.std.specs.Option.{unwrap_or}
use Rattle.reg_size.specs.declared.SizePair.{SizePair}
use Rattle.card.specs.Settings.{pair_size, pair_mult, csd_of}
use Rattle.card_settings.proofs.csd_of.Goals as goal

size : (p : Option SizePair) → (unwrap_or p (record { c_size = 0; c_size_mult = 0 })).c_size ≡ pair_size p
size (Some pair) = refl
size None = refl

mult : (p : Option SizePair) → (unwrap_or p (record { c_size = 0; c_size_mult = 0 })).c_size_mult ≡ pair_mult p
mult (Some pair) = refl
mult None = refl

pub returns : goal.returns
unfolding csd_of
returns c = rw (c.unwrap_or-pair.ensures, c.size_pair.ensures) (simp (size, mult))
