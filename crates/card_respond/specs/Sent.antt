-- A message on the line: what it stands for in the model, and what an encoder's answer is there.
use Rattle.std.specs.Prelude.{◌≡◌, ℕ, ◌%◌, ◌^◌, Bool, cond, List, [], ◌∷◌, ◌++◌, length, drop, ◌==◌, nat_lt}
use Rattle.crc.specs.Bits.{bits, bytes}
use Rattle.codec.specs.Answer.{Outcome, done, refused, BUFFER}
use Rattle.codec.specs.Format.{image}
use Rattle.wire_response.specs.Response as Wire
use Rattle.card.specs.declared.answer.Answer.{Answer}
use Rattle.card.specs.declared.Core.{Core}
use Rattle.card.specs.declared.done.Response.{Response}
use Rattle.card.specs.declared.done.Response.TheVariants.{Nothing, R1, R6, Cid, Csd, R3, R7}
use Rattle.card.specs.Settings.{cid_bytes, csd_bytes}
use Rattle.card.specs.Frame as Frame
use Rattle.card.specs.Step as Step
use Rattle.card.specs.Step.{Reply, answer, wire, reply_of, ROOM}
use Rattle.card_respond.specs.declared.Behind.{Behind}
use Rattle.card_respond.specs.declared.Behind.TheVariants.{Second, Word}
use Rattle.card_respond.specs.declared.Message.{Message}
use Rattle.card_respond.specs.declared.Message.TheVariants.{Silence, Sd, Spi, Error}

-- a response as the model's message, with the address and the registers of the record that the frame came to
abbrev pub message_by : Core → ℕ → ℕ → Response → Frame.Message
message_by c index word Nothing = Frame.silence
message_by c index word R1 = Frame.r1 index word
message_by c index word R6 = Frame.r6 c.bus.rca word
message_by c index word Cid = Frame.plain (Wire.r2_bytes (cid_bytes c.settings))
message_by c index word Csd = Frame.plain (Wire.r2_bytes (csd_bytes c.csd))
message_by c index word (R3 ocr) = Frame.plain (image Wire.r3 (ocr ∷ []))
message_by c index word (R7 voltage pattern) = cond (voltage == 0) Frame.silence (Frame.plain (image Wire.r7 (voltage ∷ pattern ∷ [])))

abbrev pub behind : Behind → List ℕ
behind Behind.Nothing = []
behind (Second byte) = byte ∷ []
behind (Word word) = bytes 4 (bits 32 word)

-- R1 of SPI mode has seven bits: bit 7 is 0
abbrev pub message : Core → Message → Frame.Message
message c Silence = Frame.silence
message c (Sd response index word) = message_by c index word response
message c (Spi r1 rest) = Frame.spi_r1 (r1 % 2 ^ 7) (behind rest)
message c (Error byte) = Frame.plain (byte ∷ [])

-- these bytes are sent, as a prefix of the buffer
pub record Sends (s before after : List ℕ) (r : Answer) : Type 0 where
  pub count : answer r ≡ done (Step.sent (length s))
  pub buffer : after ≡ s ++ drop (length s) before

-- what the step shows of a message
abbrev pub Shows : Bool → Frame.Message → List ℕ → List ℕ → Answer → Type 0
Shows crc m before after r = (answer r ≡ done (reply_of crc m)) × (after ≡ wire crc m ++ drop (length (wire crc m)) before)

-- the answer, and the output buffer afterwards
pub record Responded : Type 0 where
  pub answer : Outcome Reply
  pub out : List ℕ

abbrev pub responded : Outcome Reply → List ℕ → Responded
responded a out = record { answer = a; out = out }

-- a message, and refusal 4 where the buffer is too small for any
unfoldable pub on_line : Bool → Frame.Message → List ℕ → Responded
on_line crc m out =
    cond (nat_lt (length out) ROOM) (responded (refused BUFFER) out)
    (responded (done (reply_of crc m)) (wire crc m ++ drop (length (wire crc m)) out))
