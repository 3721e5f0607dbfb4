-- `turn7` is eight turns: at the loop's head the turns that are left lead to the same register.
use mathlib.Core.Path.{refl}
use mathlib.Core.Bool.{Bool, false}
use mathlib.Core.List.{List, [], ◌∷◌, ◌++◌}
use native.Mathlib.Omega.{arith}
use Rattle.crc.specs.Bits.{bits}
use Rattle.crc.specs.Crc.{poly7}
use Rattle.crc.proofs.Words.{turn_more, turns-none}
use Rattle.crc.proofs.turn7.Goals as goal

-- the polynomial with the register one place up in its byte
abbrev up7 : List Bool
up7 = poly7 ++ (false ∷ [])

pub loop-preserved : goal.loop-preserved
loop-preserved c =
    let at = c.loop in
    (omega arith, turn_more up7 8 at.counter at.q c.shift7-q.result _ c.loop-test.true c.shift7-q.ensures at.invariant.1)

pub returns : goal.returns
returns c = turns-none up7 c.loop.counter (bits 8 c.loop.q) _ c.loop-test.false c.loop.invariant.1
