-- The commands and the transition table (01, "Transitions"; 003's card state table; 02, order 5): a row for each command, with its moves
-- in SD mode and in SPI mode.
use Rattle.std.specs.Prelude.{Bool, true, false, cond, not, ◌&&◌, ◌||◌, List, [], ◌∷◌, ◌++◌, map, ℕ, ◌/◌, ◌^◌, eqb}
use Rattle.std.specs.Bool.{beq}
use Rattle.card.specs.declared.State.{State}
use Rattle.card.specs.declared.command.Command.{Command}
use Rattle.card.specs.declared.command.Command.TheVariants.{GoIdleState, AllSendCid, SendRelativeAddr, SelectCard, DeselectCard, SendIfCond, SendCsd, SendCid, StopTransmission, SendStatus, AppCmd, GoInactiveState, SetBlocklen, ReadSingleBlock, ReadMultipleBlock, SendWriteProt, WriteBlock, WriteMultipleBlock, LockUnlock, SetWriteProt, ClrWriteProt, Erase, EraseWrBlkStart, EraseWrBlkEnd, SdStatus, SendNumWrBlocks, SendScr, SetWrBlkEraseCount, SetClrCardDetect, SdSendOpCond, ReadOcr, CrcOnOff, Unknown}
use Rattle.card.specs.declared.command.Kind.{Kind}
use Rattle.card.specs.declared.command.Kind.TheVariants.{Plain, Application}
use Rattle.card.specs.declared.command.Rca.{Rca}
use Rattle.card.specs.declared.command.Rca.TheVariants.{Unused, Addressed, Own, Other}
use Rattle.card.specs.declared.Bus.{Bus}
use Rattle.card.specs.State.{idle, ready, ident, stby, tran, «data», rcv, prg, dis, ina, in_spi, number_in, arrive}

-- ---- moves

infixr 70 ◌⟶◌
pub record Move : Type 0 where
  pub from : ℕ
  pub to : ℕ

abbrev pub ◌⟶◌ : ℕ → ℕ → Move
a ⟶ b = record { from = a; to = b }

-- a move from each of several states to one, and a stay in each
abbrev pub each : List ℕ → ℕ → List Move
each from to = map (λ a. a ⟶ to) from

abbrev pub stay : List ℕ → List Move
stay from = map (λ a. a ⟶ a) from

-- "stby to dis"
abbrev pub stby_to_dis : List ℕ
stby_to_dis = stby ∷ tran ∷ «data» ∷ rcv ∷ prg ∷ dis ∷ []

-- idle, and neither idle nor busy with nothing open: where most of SPI's commands run
abbrev pub idle_or_tran : List ℕ
idle_or_tran = idle ∷ tran ∷ []

-- ---- rows

pub record Row : Type 0 where
  pub index : ℕ
  pub kind : Kind
  -- what the upper half of the argument is
  pub rca : Rca
  -- pending erase marks stay: 0, 32, 33 and 38 see to them themselves, 13 may come between (02, order 1); the other commands drop them
  pub keeps_erase : Bool
  -- a locked card accepts it (02, order 4)
  pub when_locked : Bool
  -- from which state to which, in SD mode
  pub sd : List Move
  -- and in SPI mode, by what counts of a state there (`spi_number`): idle, data, rcv, prg for busy, tran for none of these
  pub spi : List Move

abbrev pub columns : ℕ → Kind → Rca → Bool → Bool → List Move → List Move → Row
columns i k r e l sd spi = record { index = i; kind = k; rca = r; keeps_erase = e; when_locked = l; sd = sd; spi = spi }

-- the same moves in both modes
abbrev pub alike : ℕ → Kind → Rca → Bool → Bool → List Move → Row
alike i k r e l ms = columns i k r e l ms ms

abbrev pub KEEPS : Bool
KEEPS = true

abbrev pub DROPS : Bool
DROPS = false

abbrev pub ALWAYS : Bool
ALWAYS = true

abbrev pub UNLOCKED : Bool
UNLOCKED = false

unfoldable pub row : Command → Row
-- index, kind, RCA, erase marks, on which cards, moves
row GoIdleState = alike 0 Plain Unused KEEPS ALWAYS (each (idle ∷ ready ∷ ident ∷ stby_to_dis) idle)
row AllSendCid = columns 2 Plain Unused DROPS ALWAYS (ready ⟶ ident ∷ []) []
row SendRelativeAddr = columns 3 Plain Unused DROPS ALWAYS (each (ident ∷ stby ∷ []) stby) []
row SelectCard = columns 7 Plain Own DROPS ALWAYS (stby ⟶ tran ∷ dis ⟶ prg ∷ []) []
row DeselectCard = columns 7 Plain Other DROPS ALWAYS (each (stby ∷ tran ∷ «data» ∷ []) stby ++ (prg ⟶ dis ∷ [])) []
row SendIfCond = columns 8 Plain Unused DROPS ALWAYS (stay (idle ∷ [])) (stay idle_or_tran)
row SendCsd = columns 9 Plain Addressed DROPS ALWAYS (stay (stby ∷ [])) (tran ⟶ «data» ∷ [])
row SendCid = columns 10 Plain Addressed DROPS ALWAYS (stay (stby ∷ [])) (tran ⟶ «data» ∷ [])
row StopTransmission = alike 12 Plain Unused DROPS ALWAYS («data» ⟶ tran ∷ rcv ⟶ prg ∷ [])
row SendStatus = columns 13 Plain Addressed KEEPS ALWAYS (stay stby_to_dis) (stay (tran ∷ «data» ∷ rcv ∷ prg ∷ []))
row AppCmd = columns 55 Kind.AppCmd Addressed DROPS ALWAYS (stay (idle ∷ stby_to_dis)) (stay idle_or_tran)
row GoInactiveState = columns 15 Plain Addressed DROPS ALWAYS (each stby_to_dis ina) []
row SetBlocklen = alike 16 Plain Unused DROPS ALWAYS (stay (tran ∷ []))
row ReadSingleBlock = alike 17 Plain Unused DROPS UNLOCKED (tran ⟶ «data» ∷ [])
row ReadMultipleBlock = alike 18 Plain Unused DROPS UNLOCKED (tran ⟶ «data» ∷ [])
row SendWriteProt = alike 30 Plain Unused DROPS UNLOCKED (tran ⟶ «data» ∷ [])
row WriteBlock = alike 24 Plain Unused DROPS UNLOCKED (tran ⟶ rcv ∷ [])
row WriteMultipleBlock = alike 25 Plain Unused DROPS UNLOCKED (tran ⟶ rcv ∷ [])
row LockUnlock = alike 42 Plain Unused DROPS ALWAYS (tran ⟶ rcv ∷ [])
row SetWriteProt = alike 28 Plain Unused DROPS UNLOCKED (tran ⟶ prg ∷ [])
row ClrWriteProt = alike 29 Plain Unused DROPS UNLOCKED (tran ⟶ prg ∷ [])
row Erase = alike 38 Plain Unused KEEPS UNLOCKED (tran ⟶ prg ∷ [])
row EraseWrBlkStart = alike 32 Plain Unused KEEPS UNLOCKED (stay (tran ∷ []))
row EraseWrBlkEnd = alike 33 Plain Unused KEEPS UNLOCKED (stay (tran ∷ []))
row SdStatus = alike 13 Application Unused DROPS UNLOCKED (tran ⟶ «data» ∷ [])
row SendNumWrBlocks = alike 22 Application Unused DROPS UNLOCKED (tran ⟶ «data» ∷ [])
row SendScr = alike 51 Application Unused DROPS UNLOCKED (tran ⟶ «data» ∷ [])
row SetWrBlkEraseCount = alike 23 Application Unused DROPS UNLOCKED (stay (tran ∷ []))
row SetClrCardDetect = alike 42 Application Unused DROPS ALWAYS (stay (tran ∷ []))
row SdSendOpCond = columns 41 Application Unused DROPS ALWAYS (stay (idle ∷ [])) (stay idle_or_tran)
row ReadOcr = columns 58 Plain Unused DROPS ALWAYS [] (stay idle_or_tran)
row CrcOnOff = columns 59 Plain Unused DROPS ALWAYS [] (stay idle_or_tran)
row Unknown = alike 64 Plain Unused DROPS UNLOCKED []

-- the commands that have an index
abbrev pub commands : List Command
commands =
    GoIdleState ∷ AllSendCid ∷ SendRelativeAddr ∷ SelectCard ∷ DeselectCard ∷ SendIfCond ∷ SendCsd ∷ SendCid ∷ StopTransmission ∷ SendStatus
    ∷ AppCmd ∷ GoInactiveState ∷ SetBlocklen ∷ ReadSingleBlock ∷ ReadMultipleBlock ∷ SendWriteProt ∷ WriteBlock ∷ WriteMultipleBlock
    ∷ LockUnlock ∷ SetWriteProt ∷ ClrWriteProt ∷ Erase ∷ EraseWrBlkStart ∷ EraseWrBlkEnd ∷ SdStatus ∷ SendNumWrBlocks ∷ SendScr ∷ SetWrBlkEraseCount
    ∷ SetClrCardDetect ∷ SdSendOpCond ∷ ReadOcr ∷ CrcOnOff ∷ []

-- ---- which command it is

abbrev pub is_application : Kind → Bool
is_application Plain = false
is_application Kind.AppCmd = false
is_application Application = true

-- bit 5 shows in answers to 55 and to application commands
abbrev pub shows_app : Kind → Bool
shows_app Plain = false
shows_app Kind.AppCmd = true
shows_app Application = true

-- the application mark is set exactly if it was command 55
abbrev pub sets_app : Kind → Bool
sets_app Plain = false
sets_app Kind.AppCmd = true
sets_app Application = false

-- 7 is two rows, by the card's own address and by another
abbrev pub takes : Rca → Bool → Bool
takes Unused own = true
takes Addressed own = true
takes Own own = own
takes Other own = not own

-- addressed to another RCA
abbrev pub misses : Rca → Bool → Bool
misses Unused own = false
misses Addressed own = not own
misses Own own = false
misses Other own = false

unfoldable pub fits : Bool → ℕ → Bool → Command → Bool
fits application index own k =
    eqb (row k).index index && (beq (is_application (row k).kind) application && takes (row k).rca own)

-- the first of the list with an index, or another command
unfoldable pub find : List Command → Bool → ℕ → Bool → Command → Command
find [] application index own other = other
find (k ∷ ks) application index own other = cond (fits application index own k) k (find ks application index own other)

-- the argument's RCA is the card's; in SPI mode it is not compared
unfoldable pub own : Bus → ℕ → Bool
own b argument = in_spi b.mode || eqb (argument / 2 ^ 16) b.rca

-- after 55 an index with an A row runs as that; others run as plain
unfoldable pub command_of : Bus → ℕ → ℕ → Command
command_of b index argument =
    let plain = find commands false index (own b argument) Unknown in
    cond b.app (find commands true index (own b argument) plain) plain

-- ---- the table read

-- the moves of a command in a mode
unfoldable pub moves : Bool → Command → List Move
moves spi k = cond spi (row k).spi (row k).sd

-- the row has a move from this state
unfoldable pub has : List Move → ℕ → Bool
has [] s = false
has (m ∷ ms) s = eqb m.from s || has ms s

-- where it leads; a state with no move stays
unfoldable pub lead : List Move → ℕ → ℕ
lead [] s = s
lead (m ∷ ms) s = cond (eqb m.from s) m.to (lead ms s)

-- in this mode and state
unfoldable pub legal : Command → Bus → Bool
legal k b = has (moves (in_spi b.mode) k) (number_in (in_spi b.mode) b.state)

-- on a card that is locked or not
unfoldable pub accepts : Command → Bool → Bool
accepts k locked = (row k).when_locked || not locked

-- the state after a command, with transfer t where it opens one
unfoldable pub after : Command → Bus → State → State
after k b t = arrive (lead (moves (in_spi b.mode) k) (number_in (in_spi b.mode) b.state)) t
