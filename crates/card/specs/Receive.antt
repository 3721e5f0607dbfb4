-- The frame rules (01, "Frames"; 02, order 5), in order, of both bus modes.
use Rattle.std.specs.Prelude.{Bool, false, cond, ◌&&◌, List, ℕ, eqb, Ok, Err}
use Rattle.wire_frame.specs.Command.{frame_check, frame_check_by, FrameCheck}
use Rattle.wire_frame.specs.declared.command.Fault.TheVariants.{Size, Start, Check}
use Rattle.card.specs.declared.Mode.TheVariants.{Spi}
use Rattle.card.specs.declared.Core.{Core}
use Rattle.card.specs.declared.command.Command.{Command}
use Rattle.card.specs.declared.done.Done.{Done}
use Rattle.card.specs.declared.done.Judged.{Judged}
use Rattle.card.specs.declared.done.Judged.TheVariants.{NotAllowed, OtherCard, Ran}
use Rattle.card.specs.declared.done.Flag.TheVariants.{Keep, Set}
use Rattle.card.specs.Record.{with_app, with_mode}
use Rattle.card.specs.State.{number, ina, in_spi, checking}
use Rattle.card.specs.Status.{ILLEGAL_COMMAND}
use Rattle.card.specs.Table.{row}
use Rattle.card.specs.Execute.{raise}
use Rattle.card.specs.Frame.{plain, Turn, quiet, said, judge, finish}
use Rattle.card.specs.Spi as SpiBits
use Rattle.card.specs.Spi.{finish_spi, error_r1}

-- ---- SD mode

-- command 0 that runs with chip select low chooses SPI mode, with checks off
abbrev pub chooses : Bool → Command → Bool
chooses low k = low && eqb (row k).index 0

abbrev pub chosen : Done → Done
chosen d = record { core = with_mode d.core (Spi false); response = d.response; effect = d.effect }

-- the command that ran, and what it does, shown in the mode that it leaves
unfoldable pub shown_sd : Core → Bool → Command → Done → Turn
shown_sd c low k d = cond (chooses low k) (finish_spi c.kept k (chosen d)) (finish k (number c.bus.state) d)

unfoldable pub show_sd : Core → Bool → Judged → Turn
show_sd c low (NotAllowed k) = quiet (with_app (raise c ILLEGAL_COMMAND) false) Keep
show_sd c low (OtherCard k) = quiet (with_app c false) Keep
show_sd c low (Ran k d) = shown_sd c low k d

-- what the frame check says: start or transmission bit wrong, nothing changes (house); check or end bit wrong, COM_CRC_ERROR
unfoldable pub by_check : FrameCheck → Core → Bool → Turn
by_check (Ok fields) c low = show_sd c low (judge c fields.index fields.argument)
by_check (Err Size) c low = quiet c Keep
by_check (Err Start) c low = quiet c Keep
by_check (Err Check) c low = quiet c Set

-- in ina nothing changes
unfoldable pub receive_sd : Core → Bool → List ℕ → Turn
receive_sd c low frame = cond (eqb (number c.bus.state) ina) (quiet c Keep) (by_check (frame_check frame) c low)

-- ---- SPI mode: what is damaged or not allowed is answered, and no status bit is kept or cleared by it

-- no frame is for another card here
unfoldable pub show_spi : Core → Judged → Turn
show_spi c (NotAllowed k) = said (with_app c false) (plain (error_r1 SpiBits.ILLEGAL_COMMAND c))
show_spi c (OtherCard k) = quiet c Keep
show_spi c (Ran k d) = finish_spi c.kept k d

unfoldable pub by_check_spi : FrameCheck → Core → Turn
by_check_spi (Ok fields) c = show_spi c (judge c fields.index fields.argument)
by_check_spi (Err Size) c = quiet c Keep
by_check_spi (Err Start) c = quiet c Keep
by_check_spi (Err Check) c = said c (plain (error_r1 SpiBits.COM_CRC_ERROR c))

-- with checks off a wrong CRC7 is passed over, but for 8
abbrev pub receive_spi : Core → List ℕ → Turn
receive_spi c frame = by_check_spi (frame_check_by (checking c.bus.mode) frame) c

-- ---- a frame, with chip select low or high, which SPI mode does not look at

unfoldable pub receive : Core → Bool → List ℕ → Turn
receive c low frame = cond (in_spi c.bus.mode) (receive_spi c frame) (receive_sd c low frame)
