-- Which effects stay inside the memory that is lent, and bytes zeroed from the front.
use Rattle.std.specs.Prelude.{Bool, true, List, ◌++◌, ℕ, ◌+◌, ◌*◌, leb, drop, replicate}
use Rattle.card.specs.declared.done.Effect.{Effect}
use Rattle.card.specs.declared.done.Effect.TheVariants.{Nothing, Store, Sweep, Protect, ForceErase}
use Rattle.card.specs.Settings.{BLOCK}

-- with a payload and a memory of so many bytes
abbrev pub reaches : Effect → ℕ → ℕ → Bool
reaches Nothing payload memory = true
reaches (Store address) payload memory = leb (address + payload) memory
reaches (Sweep first count) payload memory = leb ((first + count) * BLOCK) memory
reaches (Protect group value) payload memory = true
reaches ForceErase payload memory = true

-- the first n bytes are zero
abbrev pub zeroed : ℕ → List ℕ → List ℕ
zeroed n s = replicate n 0 ++ drop n s
