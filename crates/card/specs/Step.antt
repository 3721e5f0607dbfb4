-- The five calls: refusals first, in 01's order, and then what the call does. This is the step that histories run.
use Rattle.std.specs.Prelude.{Bool, true, false, cond, not, ◌&&◌, ◌||◌, List, [], ◌∷◌, ◌++◌, ℕ, ◌+◌, eqb, leb, ltb, length, get_or, drop, replicate}
use Rattle.std.proofs.Math.Option.{Option, none, some}
use Rattle.codec.specs.Answer.{Outcome, done, refused, row_of}
use Rattle.codec.specs.Format.{image}
use Rattle.wire_response.specs.Response as Wire
use Rattle.wire_response.specs.Status.{short_status}
use Rattle.wire_packet.specs.Packet.{packet, packet_right, payload_of, CHECK}
use Rattle.card.specs.declared.answer.Answer.{Answer}
use Rattle.card.specs.declared.answer.Answer.TheVariants.{Silence, Sent, Accepted, Rejected, Over, Refused}
use Rattle.card.specs.declared.answer.Rows.{Rows}
use Rattle.card.specs.declared.Settings.{Settings}
use Rattle.card.specs.declared.Mode.{Mode}
use Rattle.card.specs.declared.Mode.TheVariants.{Sd}
use Rattle.card.specs.declared.State.TheVariants.{Idle}
use Rattle.card.specs.declared.Open.{Open}
use Rattle.card.specs.declared.Core.{Core}
use Rattle.card.specs.declared.Password.{Password}
use Rattle.card.specs.declared.Line.{Line}
use Rattle.card.specs.declared.Card.{Card}
use Rattle.card.specs.declared.command.Command.TheVariants.{StopTransmission}
use Rattle.card.specs.declared.done.Flag.{Flag}
use Rattle.card.specs.declared.done.Flag.TheVariants.{Keep, Set, Clear}
use Rattle.card.specs.Settings.{BLOCK, PASSWORD, capacity, allowed, csd_of}
use Rattle.card.specs.Record.{no_erase, with_marks}
use Rattle.card.specs.State.{in_spi, checking, open_of, reading, writing, writing_multiple, busy, locking}
use Rattle.card.specs.Status.{no_bits, at, shown}
use Rattle.card.specs.Soundness.{unsound, bad_password}
use Rattle.card.specs.Lock.{password_of, no_password, content, is_set, operation, succeeds}
use Rattle.card.specs.Protect.{whole}
use Rattle.card.specs.Execute.{moved, reset}
use Rattle.card.specs.Effects.{Stored, stored, affected}
use Rattle.card.specs.Frame.{Message, silence, r1, r6, spi_r1, plain, block, token, finished, Turn, quiet}
use Rattle.card.specs.Spi.{COM_CRC_ERROR, START_BLOCK, STOP_TRAN, start_token}
use Rattle.card.specs.Receive.{receive}
use Rattle.card.specs.Data.{take_from, block_into, password_into, over_from, ACCEPTED, REJECTED}

-- ---- calls, and what stays between them

pub data Call : Type 0 where
  -- the settings and the password
  power_up : Settings → Password → Call
  -- the frame, whether chip select is low, and the output buffer
  command_frame : List ℕ → Bool → List ℕ → Call
  -- the block
  block_in : List ℕ → Call
  -- the output buffer
  take_block : List ℕ → Call
  busy_over : Call

pub record World : Type 0 where
  pub card : Card
  pub memory : List ℕ

abbrev pub world : Card → List ℕ → World
world card memory = record { card = card; memory = memory }

-- ---- answers: each case of the enum with 01's number or value

pub data Reply : Type 0 where
  silent : Reply
  -- so many bytes of the output buffer
  sent : ℕ → Reply
  -- 010 is 2, 101 is 5
  answered : ℕ → Reply
  over : Reply

abbrev pub answer : Answer → Outcome Reply
answer Silence = done silent
answer (Sent n) = done (sent n)
answer Accepted = done (answered ACCEPTED)
answer Rejected = done (answered REJECTED)
answer Over = done over
answer (Refused e) = refused (row_of e)

-- ---- from the turn to what is seen

-- the bytes that a message sends, with COM_CRC_ERROR as the line has it
unfoldable pub wire : Bool → Message → List ℕ
wire crc silence = []
wire crc (r1 index word) = image (Wire.r1 index) (shown crc word ∷ [])
wire crc (r6 rca word) = image Wire.r6 (rca ∷ short_status (shown crc word) ∷ [])
wire crc (spi_r1 byte s) = (at COM_CRC_ERROR crc + byte) ∷ s
wire crc (plain s) = s
wire crc (block payload) = packet payload
wire crc (token n) = []
wire crc finished = []

unfoldable pub reply_of : Bool → Message → Reply
reply_of crc silence = silent
reply_of crc (r1 index word) = sent (length (wire crc (r1 index word)))
reply_of crc (r6 rca word) = sent (length (wire crc (r6 rca word)))
reply_of crc (spi_r1 byte s) = sent (length (wire crc (spi_r1 byte s)))
reply_of crc (plain s) = sent (length (wire crc (plain s)))
reply_of crc (block payload) = sent (length (wire crc (block payload)))
reply_of crc (token n) = answered n
reply_of crc finished = over

-- what the line keeps
abbrev pub line : Bool → Line
line crc = record { com_crc_error = crc }

unfoldable pub flagged : Flag → Line → Line
flagged Keep l = l
flagged Set l = line true
flagged Clear l = line false

pub record Result : Type 0 where
  pub answer : Outcome Reply
  pub world : World
  pub out : List ℕ

-- a refused call returns its number and nothing else
abbrev pub refuse : World → List ℕ → ℕ → Result
refuse w out k = record { answer = refused k; world = w; out = out }

-- memory and marks after a turn
abbrev pub after : World → Turn → Stored
after w t = affected (whole w.card.core.settings) t.effect t.payload (stored w.memory w.card.core.marks)

-- a call that was not refused, with the password that it leaves: messages go out as a prefix of the buffer
unfoldable pub show : World → Password → List ℕ → Turn → Result
show w p out t =
    let crc = w.card.line.com_crc_error in
    let s = wire crc t.message in
    record {
      answer = done (reply_of crc t.message);
      world = world (record { core = with_marks t.core (after w t).marks; password = p; line = flagged t.flag w.card.line }) (after w t).memory;
      out = s ++ drop (length s) out;
    }

-- ---- refusals

-- whether the row of a number applies
unfoldable pub applies : Rows → ℕ → Bool
applies r n =
    cond (eqb n 1) r.size (cond (eqb n 2) r.unsound (cond (eqb n 3) r.memory
    (cond (eqb n 4) r.buffer (cond (eqb n 5) r.closed (cond (eqb n 6) r.settings false)))))

-- of the rows that a call has, in their order, the first that applies
unfoldable pub refusal : List ℕ → Rows → Option ℕ
refusal [] r = none
refusal (n ∷ ns) r = cond (applies r n) (some n) (refusal ns r)

abbrev pub POWER_ROWS : List ℕ
POWER_ROWS = 3 ∷ 6 ∷ []

abbrev pub FRAME_ROWS : List ℕ
FRAME_ROWS = 1 ∷ 2 ∷ 3 ∷ 4 ∷ []

abbrev pub BLOCK_ROWS : List ℕ
BLOCK_ROWS = 2 ∷ 1 ∷ 3 ∷ 5 ∷ []

abbrev pub TAKE_ROWS : List ℕ
TAKE_ROWS = 2 ∷ 3 ∷ 4 ∷ 5 ∷ []

abbrev pub OVER_ROWS : List ℕ
OVER_ROWS = 2 ∷ 3 ∷ 5 ∷ []

-- a refusal, or the call
abbrev pub unless : Option ℕ → World → List ℕ → Result → Result
unless o w out r = elim o [ none ↦ r | some n ↦ refuse w out n ]

-- row 3
abbrev pub other_size : List ℕ → Settings → Bool
other_size memory s = not (eqb (length memory) (capacity s))

-- what the calls but power-up are handed, held against the rows; each says which sizes, buffers and transfers are wrong
abbrev pub rows : World → Bool → Bool → Bool → Rows
rows w size buffer closed = record {
  size = size;
  unsound = unsound w.card.core || bad_password w.card.core.locked w.card.password.length;
  memory = other_size w.memory w.card.core.settings;
  buffer = buffer;
  closed = closed;
  settings = false;
}

-- ---- sizes

-- a command frame, and the room for any response
abbrev pub FRAME : ℕ
FRAME = 6

abbrev pub ROOM : ℕ
ROOM = 17

-- a packet that comes in, which for 42 has the set length
unfoldable pub packet_size : Core → ℕ
packet_size c = cond (locking (open_of c.bus.state)) c.length BLOCK + CHECK

-- in SPI mode a start token leads each block
unfoldable pub token_size : Mode → ℕ
token_size m = cond (in_spi m) 1 0

-- an incoming block, and the room for any block that is taken
abbrev pub block_size : Core → ℕ
block_size c = token_size c.bus.mode + packet_size c

abbrev pub block_room : Core → ℕ
block_room c = token_size c.bus.mode + (BLOCK + CHECK)

-- a lone byte is a size of 25's transfers in SPI mode, whose stop token comes so
unfoldable pub lone_byte : Core → List ℕ → Bool
lone_byte c s = (in_spi c.bus.mode && writing_multiple (open_of c.bus.state)) && eqb (length s) 1

-- row 1 of a block in
abbrev pub other_block : Core → List ℕ → Bool
other_block c s = not (eqb (length s) (block_size c) || lone_byte c s)

-- ---- the five calls

-- the record of a power-up: SD mode, as after command 0, last published RCA 0, all marks clear
unfoldable pub fresh : Settings → Bool → Core
fresh s locked = reset (record {
  settings = s;
  csd = csd_of s;
  bus = record { mode = Sd; state = Idle; rca = 0; published = 0; polls = s.polls; app = false };
  kept = no_bits;
  erase = no_erase;
  length = BLOCK;
  written = 0;
  locked = locked;
  marks = replicate 256 0;
})

-- a card with a password starts locked
unfoldable pub start : Settings → Password → Card
start s p =
    let kept = password_of (content p) in
    record { core = fresh s (is_set kept); password = kept; line = line false }

-- before the first power-up there is a card of no blocks: its record is unsound, so every other call is refused
abbrev pub NO_CARD : Settings
NO_CARD = record {
  blocks = 0;
  polls = 0;
  cid = record { mid = 0; oid = 0; pnm = 0; prv = 0; psn = 0; mdt = 0 };
  permanent = false;
  temporary = false;
}

abbrev pub unpowered : Card
unpowered = start NO_CARD no_password

-- the settings, and a password that is not too long
abbrev pub permitted : Settings → Password → Bool
permitted s p = allowed s && leb p.length PASSWORD

abbrev pub power_refusal : World → Settings → Password → Option ℕ
power_refusal w s p =
    refusal POWER_ROWS
    (record { size = false; unsound = false; memory = other_size w.memory s; buffer = false; closed = false; settings = not (permitted s p) })

unfoldable pub powered_up : World → Settings → Password → Result
powered_up w s p = unless (power_refusal w s p) w [] (record { answer = done over; world = world (start s p) w.memory; out = [] })

abbrev pub frame_refusal : World → List ℕ → List ℕ → Option ℕ
frame_refusal w frame out = refusal FRAME_ROWS (rows w (not (eqb (length frame) FRAME)) (ltb (length out) ROOM) false)

unfoldable pub framed : World → List ℕ → Bool → List ℕ → Result
framed w frame low out = unless (frame_refusal w frame out) w out (show w w.card.password out (receive w.card.core low frame))

-- what the state of the card has open
abbrev pub opened : World → Open
opened w = open_of w.card.core.bus.state

abbrev pub block_refusal : World → List ℕ → Option ℕ
block_refusal w s = refusal BLOCK_ROWS (rows w (other_block w.card.core s) false (not (writing (opened w))))

-- what a block is behind its framing
pub data Incoming : Type 0 where
  -- a payload, and whether its check is right, or not judged
  payload : Bool → List ℕ → Incoming
  -- the stop token of 25
  stop : Incoming
  -- behind a wrong token, or a lone byte that is no stop token
  ignored : Incoming

-- a packet, of which the check counts or not
abbrev pub packet_in : Bool → List ℕ → Incoming
packet_in checks s = payload (not checks || packet_right s) (payload_of s)

-- behind its start token; a lone byte is the stop token of 25
unfoldable pub token_in : Bool → Open → List ℕ → Incoming
token_in checks o s =
    let token = get_or s 0 0 in
    cond (eqb (length s) 1) (cond (eqb token STOP_TRAN) stop ignored)
    (cond (eqb token (start_token o)) (packet_in checks (drop 1 s)) ignored)

unfoldable pub incoming : Mode → Open → List ℕ → Incoming
incoming m o s = cond (in_spi m) (token_in (checking m) o s) (packet_in true s)

-- whether the operation of 42's payload succeeds: all that the core is told of the password
abbrev pub success : World → List ℕ → Bool
success w s = succeeds (operation s) w.card.core.locked w.card.core.settings.permanent w.card.password s

-- a payload goes into the transfer; the stop token ends it as 12 does
unfoldable pub entered : World → Incoming → Result
entered w (payload right s) =
    show w (password_into (opened w) right (success w s) w.card.password s) [] (block_into (opened w) right (success w s) w.card.core s)
entered w stop = show w w.card.password [] (quiet (moved StopTransmission w.card.core) Keep)
entered w ignored = show w w.card.password [] (quiet w.card.core Keep)

-- what came in, by the mode and what is open
abbrev pub arrived : World → List ℕ → Incoming
arrived w s = incoming w.card.core.bus.mode (opened w) s

unfoldable pub given : World → List ℕ → Result
given w s = unless (block_refusal w s) w [] (entered w (arrived w s))

abbrev pub take_refusal : World → List ℕ → Option ℕ
take_refusal w out = refusal TAKE_ROWS (rows w false (ltb (length out) (block_room w.card.core)) (not (reading (opened w))))

-- a block that the card hands out, behind its token in SPI mode
unfoldable pub led_message : Bool → Message → Message
led_message spi silence = silence
led_message spi (r1 index word) = r1 index word
led_message spi (r6 rca word) = r6 rca word
led_message spi (spi_r1 byte s) = spi_r1 byte s
led_message spi (plain s) = plain s
led_message spi (block s) = cond spi (plain (START_BLOCK ∷ packet s)) (block s)
led_message spi (token n) = token n
led_message spi finished = finished

abbrev pub led : Mode → Turn → Turn
led m t = record { core = t.core; flag = t.flag; message = led_message (in_spi m) t.message; effect = t.effect; payload = t.payload }

-- what a take comes to
abbrev pub handed : World → Turn
handed w = led w.card.core.bus.mode (take_from (opened w) w.card.core w.memory)

unfoldable pub taken : World → List ℕ → Result
taken w out = unless (take_refusal w out) w out (show w w.card.password out (handed w))

abbrev pub over_refusal : World → Option ℕ
over_refusal w = refusal OVER_ROWS (rows w false false (not (busy (opened w))))

unfoldable pub overed : World → Result
overed w = unless (over_refusal w) w [] (show w w.card.password [] (over_from (opened w) w.card.core))

unfoldable pub step : World → Call → Result
step w (power_up s p) = powered_up w s p
step w (command_frame frame low out) = framed w frame low out
step w (block_in s) = given w s
step w (take_block out) = taken w out
step w busy_over = overed w

abbrev pub next : World → Call → World
next w c = (step w c).world
