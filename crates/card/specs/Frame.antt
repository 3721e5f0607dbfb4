-- Which command a frame asks for and what it does, in either bus mode; what a call comes to; and the responses of SD mode (01, "Frames").
use Rattle.std.specs.Prelude.{cond, ◌&&◌, List, [], ◌∷◌, ℕ, eqb}
use Rattle.codec.specs.Format.{image}
use Rattle.wire_response.specs.Response as Wire
use Rattle.card.specs.declared.Core.{Core}
use Rattle.card.specs.declared.command.Command.{Command}
use Rattle.card.specs.declared.done.Response.{Response}
use Rattle.card.specs.declared.done.Response.TheVariants.{R1, R6, Cid, Csd, R3, R7}
use Rattle.card.specs.declared.done.Effect.{Effect}
use Rattle.card.specs.declared.done.Done.{Done}
use Rattle.card.specs.declared.done.Judged.{Judged}
use Rattle.card.specs.declared.done.Judged.TheVariants.{NotAllowed, OtherCard, Ran}
use Rattle.card.specs.declared.done.Flag.{Flag}
use Rattle.card.specs.declared.done.Flag.TheVariants.{Keep, Clear}
use Rattle.card.specs.Settings.{cid_bytes, csd_bytes}
use Rattle.card.specs.Record.{with_kept, with_app}
use Rattle.card.specs.Status.{no_bits, without_illegal, status}
use Rattle.card.specs.Table.{row, command_of, own, misses, shows_app, sets_app, legal, accepts}
use Rattle.card.specs.Execute.{ran, settled, run}

-- ---- which command, allowed or not, and what it does

-- not allowed here, not on a locked card, or not in the table; addressed to another RCA; or it runs
unfoldable pub judge : Core → ℕ → ℕ → Judged
judge c index argument =
    let k = command_of c.bus index argument in
    cond (accepts k c.locked && legal k c.bus)
    (cond (misses (row k).rca (own c.bus argument)) (OtherCard k) (Ran k (run k (settled k c) argument)))
    (NotAllowed k)

-- ---- what a call comes to, before the line adds COM_CRC_ERROR and the checks

pub data Message : Type 0 where
  silence : Message
  -- R1 with index and status, R6 with RCA and status; the status lacks COM_CRC_ERROR
  r1 : ℕ → ℕ → Message
  r6 : ℕ → ℕ → Message
  -- SPI mode: R1, which lacks COM_CRC_ERROR, and the bytes behind it
  spi_r1 : ℕ → List ℕ → Message
  -- bytes that carry no status: R2, R3 and R7, an error of SPI mode
  plain : List ℕ → Message
  -- the payload of a data block
  block : List ℕ → Message
  -- the data answers, 010 and 101 as numbers
  token : ℕ → Message
  -- busy over
  finished : Message

pub record Turn : Type 0 where
  pub core : Core
  pub flag : Flag
  pub message : Message
  pub effect : Effect
  -- of a block that is stored
  pub payload : List ℕ

-- silence, with the record as it is given; memory and marks stay
abbrev pub quiet : Core → Flag → Turn
quiet c f = record { core = c; flag = f; message = silence; effect = Effect.Nothing; payload = [] }

-- a message that leaves COM_CRC_ERROR; memory and marks stay
abbrev pub said : Core → Message → Turn
said c m = record { core = c; flag = Keep; message = m; effect = Effect.Nothing; payload = [] }

-- ---- SD mode: a command that ran; state is the number of the state at reception

-- the status word that a response shows: the bits held before and the command's own, and the lock
abbrev pub word_of : Command → ℕ → Done → ℕ
word_of k state d = status d.core.kept d.core.locked state (shows_app (row k).kind)

-- the message of a response; a voltage that 8 does not accept gets silence
unfoldable pub message_of : Command → ℕ → Done → Response → Message
message_of k state d Response.Nothing = silence
message_of k state d R1 = r1 (row k).index (word_of k state d)
message_of k state d R6 = r6 d.core.bus.rca (word_of k state d)
message_of k state d Cid = plain (Wire.r2_bytes (cid_bytes d.core.settings))
message_of k state d Csd = plain (Wire.r2_bytes (csd_bytes d.core.csd))
message_of k state d (R3 ocr) = plain (image Wire.r3 (ocr ∷ []))
message_of k state d (R7 voltage pattern) = cond (eqb voltage 0) silence (plain (image Wire.r7 (voltage ∷ pattern ∷ [])))

-- bit 22 goes, and so does each clear-by-read bit that the response carried: R1 carries them all, the others none that is kept
unfoldable pub cleared : Response → Core → Core
cleared Response.Nothing c = with_kept c (without_illegal c.kept)
cleared R1 c = with_kept c no_bits
cleared R6 c = with_kept c (without_illegal c.kept)
cleared Cid c = with_kept c (without_illegal c.kept)
cleared Csd c = with_kept c (without_illegal c.kept)
cleared (R3 ocr) c = with_kept c (without_illegal c.kept)
cleared (R7 voltage pattern) c = with_kept c (without_illegal c.kept)

-- the application mark is then set exactly if it was command 55
abbrev pub finish : Command → ℕ → Done → Turn
finish k state d = record {
  core = with_app (cleared d.response d.core) (sets_app (row k).kind);
  flag = Clear;
  message = message_of k state d d.response;
  effect = d.effect;
  payload = [];
}
