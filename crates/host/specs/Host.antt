-- The host's two calls (02, order 2): refusals first, in the order of 01's table, and then what the call does.
use Rattle.std.specs.Prelude.{Bool, cond, not, ◌&&◌, ◌||◌, List, [], ◌∷◌, ◌++◌, ℕ, ◌+◌, eqb, leb, ltb, length, drop, replicate, Option, Some, None, Result as Answered, Ok, Err}
use Rattle.codec.specs.declared.Refusal.{Refusal}
use Rattle.codec.specs.Answer.{Outcome, done, refused, BUFFER, row_of, outcome_of}
use Rattle.codec.specs.Format.{image}
use Rattle.wire_frame.specs.Command.{command}
use Rattle.host.specs.declared.Command.{Command}
use Rattle.host.specs.declared.Command.TheVariants.{GoIdleState, AppCmd}
use Rattle.host.specs.declared.Phase.{Phase}
use Rattle.host.specs.declared.Phase.TheVariants.{Start, Sent, Ended}
use Rattle.host.specs.declared.Found.{Found}
use Rattle.host.specs.declared.Host.{Host}
use Rattle.host.specs.declared.Answer.{Answer}
use Rattle.host.specs.declared.Answer.TheVariants.{Selected, Stopped, NotReady}
use Rattle.host.specs.declared.Stepped.{Stepped}
use Rattle.host.specs.declared.Started.{Started}
use Rattle.host.specs.declared.Row.{Row}
use Rattle.host.specs.Sequence.{row, APP_CMD, SD_SEND_OP_COND}
use Rattle.host.specs.Reply.{Cause, Judged, Expected, Busy, Unexpected, judge, learn, cause}

-- ---- numbers of 01's table: the record (row 2), a step after the end (row 5), the limit (row 6)

abbrev pub UNSOUND : ℕ
UNSOUND = 2

abbrev pub CLOSED : ℕ
CLOSED = 5

abbrev pub SETTING : ℕ
SETTING = 6

-- 1 to 1,000 polls
abbrev pub MOST : ℕ
MOST = 1000

abbrev pub limited : ℕ → Bool
limited limit = leb 1 limit && leb limit MOST

-- the room for any frame or response
abbrev pub ROOM : ℕ
ROOM = 17

-- ---- start

-- nothing is known of the card yet
abbrev pub unknown : Found
unknown = record { rca = 0; cid = replicate 16 0; csd = replicate 16 0 }

abbrev pub begin : ℕ → Host
begin limit = record { limit = limit; polls = 0; phase = Start; found = unknown }

-- the numbers of the answers
abbrev pub started : Answered (Unit {0}) Refusal → Outcome (Unit {0})
started = outcome_of (λ begun. begun)

pub record Begins : Type 0 where
  pub answer : Outcome (Unit {0})
  pub host : Host

-- row 6, or the record; a record of such a limit is out of range
unfoldable pub start : ℕ → Begins
start limit = record { answer = cond (limited limit) (done tt) (refused SETTING); host = begin limit }

-- ---- a step: its answer, the record and the output buffer

pub data Word : Type 0 where
  -- so many bytes of the output buffer, which are the next frame
  sent : ℕ → Word
  selected : Word
  stopped : Command → Cause → Word
  not_ready : Word

abbrev pub answer : Answer → Outcome Word
answer (Answer.Sent n) = done (sent n)
answer Selected = done selected
answer (Stopped k r) = done (stopped k (cause r))
answer NotReady = done not_ready
answer (Answer.Refused e) = refused (row_of e)

-- an encoder's answer as the host's
abbrev pub written : Answered ℕ Refusal → Answer
written (Ok n) = Answer.Sent n
written (Err e) = Answer.Refused e

pub record Result : Type 0 where
  pub answer : Outcome Word
  pub host : Host
  pub out : List ℕ

-- limit or polls out of range
unfoldable pub unsound : ℕ → ℕ → Bool
unsound limit polls = not (limited limit) || ltb limit polls

-- a refused step returns its number and nothing else
abbrev pub refuse : Host → List ℕ → ℕ → Result
refuse h out k = record { answer = refused k; host = h; out = out }

-- the end, with what is known of the card
unfoldable pub end : Host → Found → Word → List ℕ → Result
end h f a out = record { answer = done a; host = record { limit = h.limit; polls = h.polls; phase = Ended; found = f }; out = out }

-- the frame of a row
abbrev pub frame : Row → List ℕ
frame r = image command (r.index ∷ r.argument ∷ [])

-- the polls are counted where A41 is sent
unfoldable pub counted : ℕ → ℕ → ℕ
counted index polls = cond (eqb index SD_SEND_OP_COND) (polls + 1) polls

-- the frame goes out as a prefix of the buffer
unfoldable pub sends : Host → Found → Command → List ℕ → Result
sends h f k out =
    let r = row k f.rca in
    record {
      answer = done (sent (length (frame r)));
      host = record { limit = h.limit; polls = counted r.index h.polls; phase = Sent k; found = f };
      out = frame r ++ drop (length (frame r)) out;
    }

-- 55 and A41 make a poll
abbrev pub of_poll : ℕ → Bool
of_poll index = eqb index APP_CMD || eqb index SD_SEND_OP_COND

-- the next command, unless it is one of a poll and the limit's polls are used up
unfoldable pub goes : Host → Found → Command → List ℕ → Result
goes h f k out = cond (of_poll (row k f.rca).index && leb h.limit h.polls) (end h f not_ready out) (sends h f k out)

unfoldable pub follows : Host → Found → Option Command → List ℕ → Result
follows h f (Some k) out = goes h f k out
follows h f None out = end h f selected out

-- by the judgement of a reply to a command, and what is known of the card then: one that is busy is polled again
unfoldable pub answered : Host → Command → Option Command → Judged → Found → List ℕ → Result
answered h k n Expected f out = follows h f n out
answered h k n Busy f out = goes h f AppCmd out
answered h k n (Unexpected reason) f out = end h f (stopped k reason) out

unfoldable pub hears : Host → Command → List ℕ → List ℕ → Result
hears h k reply out =
    let r = row k h.found.rca in
    answered h k r.next (judge r.answer r.index reply) (learn r.answer h.found reply) out

-- the first step sends 0 and looks at no reply; after the end there is none
unfoldable pub turns : Phase → Host → List ℕ → List ℕ → Result
turns Start h reply out = sends h h.found GoIdleState out
turns (Sent k) h reply out = hears h k reply out
turns Ended h reply out = refuse h out CLOSED

-- rows 2, 4 and 5
unfoldable pub step : Host → List ℕ → List ℕ → Result
step h reply out = cond (unsound h.limit h.polls) (refuse h out UNSOUND) (cond (ltb (length out) ROOM) (refuse h out BUFFER) (turns h.phase h reply out))

-- ---- what a caller sees

abbrev pub begun : Started → Begins
begun r = record { answer = started r.answer; host = r.host }

abbrev pub stepped : Stepped → List ℕ → Result
stepped r out = record { answer = answer r.answer; host = r.host; out = out }
