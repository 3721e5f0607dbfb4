-- The sequence that brings a card up (02, order 2), as data: a row for each command, in the order in which they are sent.
use Rattle.std.specs.Prelude.{ℕ, ◌*◌, ◌^◌, Option, Some, None}
use Rattle.host.specs.declared.Command.{Command}
use Rattle.host.specs.declared.Command.TheVariants.{GoIdleState, SendIfCond, AppCmd, SdSendOpCond, AllSendCid, SendRelativeAddr, SendCsd, SelectCard}
use Rattle.host.specs.declared.Kind.{Kind}
use Rattle.host.specs.declared.Kind.TheVariants.{Silence, R1, R3, R6, R7, Cid, Csd}
use Rattle.host.specs.declared.Row.{Row}

-- 8: voltage field 1 and the pattern AAh, which the R7 must echo
abbrev pub VOLTAGE : ℕ
VOLTAGE = 1

abbrev pub PATTERN : ℕ
PATTERN = 0xAA

-- A41: every voltage of the window
abbrev pub WINDOW : ℕ
WINDOW = 0xFF8000

-- unused bits are zero; an RCA is the upper half of the argument
abbrev pub UNUSED : ℕ
UNUSED = 0

abbrev pub addressed : ℕ → ℕ
addressed rca = rca * 2 ^ 16

abbrev pub columns : ℕ → ℕ → Kind → Option Command → Row
columns index argument answer next = record { index = index; argument = argument; answer = answer; next = next }

-- the row of a command, for a card with this RCA
unfoldable pub row : Command → ℕ → Row
-- index, argument, answer, what follows it
row GoIdleState rca = columns 0 UNUSED Silence (Some SendIfCond)
row SendIfCond rca = columns 8 0x1AA R7 (Some AppCmd)
row AppCmd rca = columns 55 UNUSED R1 (Some SdSendOpCond)
row SdSendOpCond rca = columns 41 WINDOW R3 (Some AllSendCid)
row AllSendCid rca = columns 2 UNUSED Cid (Some SendRelativeAddr)
row SendRelativeAddr rca = columns 3 UNUSED R6 (Some SendCsd)
row SendCsd rca = columns 9 (addressed rca) Csd (Some SelectCard)
row SelectCard rca = columns 7 (addressed rca) R1 None

-- the two commands of a poll
abbrev pub APP_CMD : ℕ
APP_CMD = 55

abbrev pub SD_SEND_OP_COND : ℕ
SD_SEND_OP_COND = 41
