-- `size_pair` tries the multipliers in their order: none of those passed gives the count.
use mathlib.Core.Path.{◌≡◌}
use Prim.Native.Nat.{◌-◌}
use Rattle.reg_size.specs.Size.{pair_from, size_pair}
use Rattle.reg_size.proofs.size_pair.Given as goal

abbrev pub invariant-loop-c_size_mult : goal.invariant-loop-c_size_mult
invariant-loop-c_size_mult l = size_pair l.blocks ≡ pair_from l.blocks l.c_size_mult (8 - l.c_size_mult)
