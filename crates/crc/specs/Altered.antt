-- Damage to a word of bits, in the order sent: 01's "altered".
use Rattle.std.specs.Prelude.{◌≡◌, Bool, true, false, List, [], ◌∷◌, ◌++◌, ℕ, suc, ◌≤◌, length, replicate}
use Rattle.crc.specs.Crc.{◌⊕◌}

-- how many places are set
unfoldable pub count : List Bool → ℕ
count [] = 0
count (false ∷ bs) = count bs
count (true ∷ bs) = suc (count bs)

-- every place that is set lies within as many neighbouring places as `near` says
pub record Burst (near : ℕ) (places : List Bool) : Type 0 where
  pub before : ℕ
  pub window : List Bool
  pub after : ℕ
  pub short : length window ≤ near
  pub outside : places ≡ replicate before false ++ (window ++ replicate after false)

-- at most `few` places, or neighbouring ones
pub data Reach (few near : ℕ) (places : List Bool) : Type 0 where
  scattered : count places ≤ few → Reach few near places
  neighbours : Burst near places → Reach few near places

-- what was sent came as `got`: as long, and different in at least one bit, in no more places than the reach says
pub record Altered (few near : ℕ) (sent got : List Bool) : Type 0 where
  pub same_length : length got ≡ length sent
  pub differs : 1 ≤ count (sent ⊕ got)
  pub reach : Reach few near (sent ⊕ got)
