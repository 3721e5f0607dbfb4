-- Locked cards (02, order 4): nothing of the password shows but whether an operation succeeds, and nothing of memory at all.
use Rattle.std.specs.Prelude.{◌≡◌, Bool, true, false, cond, ◌&&◌, List, [], ◌∷◌, ℕ, length, replicate}
use Rattle.std.proofs.Math.Option.{Option, none, some}
use Rattle.card.specs.declared.Source.{Source}
use Rattle.card.specs.declared.Source.TheVariants.{Blocks, WriteProtect, SdStatus, WrittenBlocks, Scr, Csd, Cid}
use Rattle.card.specs.declared.Open.{Open}
use Rattle.card.specs.declared.Open.TheVariants.{Nothing, Read, Write, Busy}
use Rattle.card.specs.declared.lock.Operation.{Operation}
use Rattle.card.specs.declared.lock.Operation.TheVariants.{ForceErase, Lock, Unlock, ClearPassword, SetPassword, Invalid}
use Rattle.card.specs.State.{sink_locks, locking}
use Rattle.card.specs.Lock.{operation}
use Rattle.card.specs.Step.{Call, power_up, command_frame, block_in, take_block, busy_over, World, Incoming, payload, stop, ignored, opened, block_refusal, success, arrived, step, next}
use Rattle.card.specs.History.{Sound, Start}

-- ---- the password

-- the same card and memory, but for the password and its length
pub record SameButPassword (a b : World) : Type 0 where
  pub core : a.card.core ≡ b.card.core
  pub line : a.card.line ≡ b.card.line
  pub memory : a.memory ≡ b.memory

-- a block of 42
abbrev pub locks : World → Call → Bool
locks w (block_in s) = locking (opened w)
locks w (power_up s p) = false
locks w (command_frame frame low out) = false
locks w (take_block out) = false
locks w busy_over = false

-- status bits 25 and 24
pub record SameBits (a b : World) : Type 0 where
  pub card_is_locked : a.card.core.locked ≡ b.card.core.locked
  pub lock_unlock_failed : a.card.core.kept.lock_unlock_failed ≡ b.card.core.kept.lock_unlock_failed

-- a call on both: the same answer or refusal number, output buffer and memory
pub record AlikeButPassword (a b : World) (c : Call) : Type 0 where
  pub answer : (step a c).answer ≡ (step b c).answer
  pub out : (step a c).out ≡ (step b c).out
  pub memory : (next a c).memory ≡ (next b c).memory

-- the same calls on both, as long as 42 leaves the two bits the same
abbrev pub AgreeButPassword : World → World → List Call → Type 0
AgreeButPassword a b [] = Unit {0}
AgreeButPassword a b (c ∷ cs) =
    AlikeButPassword a b c
    × ((locks a c ≡ true → SameBits (next a c) (next b c)) → AgreeButPassword (next a c) (next b c) cs)

-- any two sound cards, locked or not
abbrev pub PasswordUnseen : Type 0
PasswordUnseen = (a b : World) → Sound a → Sound b → SameButPassword a b → (cs : List Call) → AgreeButPassword a b cs

-- ---- memory

-- no transfer of memory is open
abbrev pub source_shut : Source → Bool
source_shut (Blocks multiple address held) = false
source_shut (WriteProtect address) = true
source_shut SdStatus = true
source_shut WrittenBlocks = true
source_shut Scr = true
source_shut Csd = true
source_shut Cid = true

abbrev pub shut : Open → Bool
shut Nothing = true
shut (Read s) = source_shut s
shut (Write s) = sink_locks s
shut (Busy s) = true

-- none on a locked card: so it is at a power-up, and so every call leaves it
abbrev pub Shut : World → Type 0
Shut w = w.card.core.locked ≡ true → shut (opened w) ≡ true

abbrev pub StartsShut : Type 0
StartsShut = (w : World) → Start w → Shut w

abbrev pub KeepsShut : Type 0
KeepsShut = (w : World) (c : Call) → Shut w → Shut (next w c)

abbrev pub is_force_erase : Operation → Bool
is_force_erase ForceErase = true
is_force_erase Lock = false
is_force_erase Unlock = false
is_force_erase ClearPassword = false
is_force_erase (SetPassword lock) = false
is_force_erase Invalid = false

abbrev pub passes : Option ℕ → Bool
passes none = true
passes (some n) = false

-- what came in is a force erase that succeeds, if it is for 42
abbrev pub erases_by : World → Incoming → Bool
erases_by w (payload right s) = right && (success w s && is_force_erase (operation s))
erases_by w stop = false
erases_by w ignored = false

-- the call is one
unfoldable pub force_erases : World → Call → Bool
force_erases w (block_in s) = passes (block_refusal w s) && (locking (opened w) && erases_by w (arrived w s))
force_erases w (power_up s p) = false
force_erases w (command_frame frame low out) = false
force_erases w (take_block out) = false
force_erases w busy_over = false

-- two cards with one record and any two memories: the call shows the same and leaves the same record, and memory stays but for a force
-- erase, which zeroes it
pub record AlikeButMemory (a b : World) (c : Call) : Type 0 where
  pub answer : (step a c).answer ≡ (step b c).answer
  pub out : (step a c).out ≡ (step b c).out
  pub card : (next a c).card ≡ (next b c).card
  pub memory : (next a c).memory ≡ cond (force_erases a c) (replicate (length a.memory) 0) a.memory

-- the same calls on both, as long as they are locked
abbrev pub AgreeButMemory : World → World → List Call → Type 0
AgreeButMemory a b [] = Unit {0}
AgreeButMemory a b (c ∷ cs) = a.card.core.locked ≡ true → AlikeButMemory a b c × AgreeButMemory (next a c) (next b c) cs

abbrev pub MemoryUnseen : Type 0
MemoryUnseen = (a b : World) → Sound a → Sound b → Shut a → a.card ≡ b.card → (cs : List Call) → AgreeButMemory a b cs
