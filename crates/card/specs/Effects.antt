-- What a call does to memory and protection marks, applied in one place.
use Rattle.std.specs.Prelude.{Bool, cond, List, ◌++◌, ℕ, zero, suc, ◌+◌, ◌*◌, length, take, drop, replicate}
use Rattle.card.specs.declared.done.Effect.{Effect}
use Rattle.card.specs.declared.done.Effect.TheVariants.{Nothing, Store, Sweep, Protect, ForceErase}
use Rattle.card.specs.Settings.{BLOCK}
use Rattle.card.specs.Protect.{guarded, mark}

pub record Stored : Type 0 where
  pub memory : List ℕ
  pub marks : List ℕ

abbrev pub stored : List ℕ → List ℕ → Stored
stored memory marks = record { memory = memory; marks = marks }

-- bytes put in place of as many from an address on
abbrev pub over : List ℕ → ℕ → List ℕ → List ℕ
over memory address s = take address memory ++ (s ++ drop (address + length s) memory)

-- a block by its number: zeroed, unless it is protected
unfoldable pub swept_block : Bool → List ℕ → ℕ → List ℕ → List ℕ
swept_block all marks b memory = cond (guarded all marks (b * BLOCK)) memory (over memory (b * BLOCK) (replicate BLOCK 0))

-- k blocks from number b on
unfoldable pub swept : Bool → List ℕ → ℕ → ℕ → List ℕ → List ℕ
swept all marks b zero memory = memory
swept all marks b (suc k) memory = swept all marks (b + 1) k (swept_block all marks b memory)

-- on a card that is protected as a whole or not, with the payload of a block that is stored
unfoldable pub affected : Bool → Effect → List ℕ → Stored → Stored
affected all Nothing payload m = m
affected all (Store address) payload m = stored (over m.memory address payload) m.marks
affected all (Sweep first count) payload m = stored (swept all m.marks first count m.memory) m.marks
affected all (Protect group value) payload m = stored m.memory (mark value m.marks group)
affected all ForceErase payload m = stored (replicate (length m.memory) 0) (replicate (length m.marks) 0)
