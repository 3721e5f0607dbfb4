-- How a reading is stated: a run of calls with what each shows, as the programs print it; or one decoded response.
use Rattle.std.specs.Prelude.{Bool, true, false, cond, ◌&&◌, List, [], ◌∷◌, ◌++◌, ℕ, ◌+◌, ◌/◌, ◌%◌, ◌^◌, eqb, take, get_or, set, replicate}
use Rattle.std.specs.Bool.{beq}
use Rattle.codec.specs.Answer.{Outcome, done, refused}
use Rattle.codec.specs.Format.{decode}
use Rattle.wire_response.specs.Response as Wire
use Rattle.wire_response.specs.Status.{current_state, ready_for_data}
use Rattle.wire_packet.specs.Packet.{packet}
use Rattle.card.specs.declared.Settings.{Settings}
use Rattle.card.specs.Settings.{capacity}
use Rattle.card.specs.Soundness.{equal}
use Rattle.card.specs.Lock.{no_password}
use Rattle.card.specs.State.{in_spi}
use Rattle.card.specs.Spi.{data_response}
use Rattle.card.specs.Data.{ACCEPTED}
use Rattle.card.specs.Step.{Call, power_up, command_frame, block_in, take_block, busy_over, World, world, Reply, silent, sent, answered, over, step, start}

-- unprotected, CID zero
abbrev pub sized : ℕ → ℕ → Settings
sized n p = record {
  blocks = n;
  polls = p;
  cid = record { mid = 0; oid = 0; pnm = 0; prv = 0; psn = 0; mdt = 0 };
  permanent = false;
  temporary = false;
}

-- 01's: 64 blocks, no polls
abbrev pub bench : Settings
bench = sized 64 0

-- for the further readings: 4 blocks, and with a poll
abbrev pub small : Settings
small = sized 4 0

abbrev pub polled : Settings
polled = sized 4 1

unfoldable pub bench_world : Settings → World
bench_world s = world (start s no_password) (replicate (capacity s) 0)

-- what the replay program prints: none, rsp or blk with bytes, ack, nak, ref with a number
pub data Print : Type 0 where
  none ack nak : Print
  rsp blk : List ℕ → Print
  ref : ℕ → Print

pub record Reading : Type 0 where
  pub call : Call
  pub prints : Print

-- bytes of a number, high byte first
abbrev pub six : ℕ → List ℕ
six n = n / 2 ^ 40 % 256 ∷ n / 2 ^ 32 % 256 ∷ n / 2 ^ 24 % 256 ∷ n / 2 ^ 16 % 256 ∷ n / 2 ^ 8 % 256 ∷ n % 256 ∷ []

infix 70 ◌shows◌
-- a frame and its response, and a frame with silence
abbrev pub frame : ℕ → Call
frame f = command_frame (six f) false (replicate 17 0)

abbrev pub ◌shows◌ : ℕ → ℕ → Reading
f shows r = record { call = frame f; prints = rsp (six r) }

abbrev pub quietly : ℕ → Reading
quietly f = record { call = frame f; prints = none }

abbrev pub taking : List ℕ → Reading
taking s = record { call = take_block (replicate 514 0); prints = blk s }

abbrev pub taking-nothing : Reading
taking-nothing = record { call = take_block (replicate 514 0); prints = none }

abbrev pub writing : List ℕ → Reading
writing s = record { call = block_in s; prints = ack }

-- the same block with its first bit altered
abbrev pub damaging : List ℕ → Reading
damaging s = record { call = block_in (set s 0 (get_or s 0 0 + 128)); prints = nak }

abbrev pub overs : Reading
overs = record { call = busy_over; prints = none }

abbrev pub refusing : Call → ℕ → Reading
refusing c k = record { call = c; prints = ref k }

-- a block to write, and one of zeros as it is read
abbrev pub block : List ℕ
block = packet (replicate 512 0x2B)

abbrev pub zeros : ℕ → List ℕ
zeros n = packet (replicate n 0)

-- bytes are a block where they were taken, and a response elsewhere
abbrev pub bytes_of : Call → List ℕ → Print
bytes_of (take_block before) s = blk s
bytes_of (command_frame f low before) s = rsp s
bytes_of (power_up settings password) s = rsp s
bytes_of (block_in b) s = rsp s
bytes_of busy_over s = rsp s

-- the answer is what the line says; in SPI mode a data response is a byte
unfoldable pub printed : Bool → Call → Outcome Reply → List ℕ → Print
printed spi c (refused k) out = ref k
printed spi c (done silent) out = none
printed spi c (done (sent n)) out = bytes_of c (take n out)
printed spi c (done (answered n)) out = cond spi (rsp (data_response n ∷ [])) (cond (eqb n ACCEPTED) ack nak)
printed spi c (done over) out = none

-- which word it is, and what stands behind it
abbrev pub word_of : Print → ℕ
word_of none = 0
word_of ack = 1
word_of nak = 2
word_of (rsp s) = 3
word_of (blk s) = 4
word_of (ref k) = 5

abbrev pub field_of : Print → List ℕ
field_of none = []
field_of ack = []
field_of nak = []
field_of (rsp s) = s
field_of (blk s) = s
field_of (ref k) = k ∷ []

unfoldable pub same_print : Print → Print → Bool
same_print p q = eqb (word_of p) (word_of q) && equal (field_of p) (field_of q)

unfoldable pub plays : World → List Reading → Bool
plays w [] = true
plays w (l ∷ ls) =
    let r = step w l.call in
    same_print (printed (in_spi w.card.core.bus.mode) l.call r.answer r.out) l.prints && plays r.world ls

pub data Example : Type 0 where
  -- lines from power-up on
  on : Settings → List Reading → Example
  -- lines on any world
  from : World → List Reading → Example
  -- an R1 with its index, and the state and readiness that its status shows
  decodes : ℕ → ℕ → ℕ → Bool → Example

unfoldable pub shown_by : Outcome (List ℕ) → ℕ → Bool → Bool
shown_by (refused k) state ready = false
shown_by (done vs) state ready = eqb (current_state (get_or vs 0 0)) state && beq (ready_for_data (get_or vs 0 0)) ready

unfoldable pub holds : Example → Bool
holds (on s ls) = plays (bench_world s) ls
holds (from w ls) = plays w ls
holds (decodes index r state ready) = shown_by (decode (Wire.r1 index) (six r)) state ready

-- ---- runs that readings share

-- the CID, all zero
abbrev pub cid_line : Reading
cid_line = record { call = frame 0x42000000004D; prints = rsp (0x3F ∷ (replicate 15 0 ++ (1 ∷ []))) }

-- the card selected: 55, A41, 2, 3, 7
abbrev pub selected : List Reading → List Reading
selected rest =
    0x770000000065 shows 0x370000012083
    ∷ 0x6900FF800085 shows 0x3F80FF8000FF
    ∷ cid_line
    ∷ 0x430000000021 shows 0x0300010500A5
    ∷ 0x4700010000DD shows 0x070000070075 ∷ rest

-- 13, with no error to show
abbrev pub send_status_call : Reading
send_status_call = 0x4D0001000053 shows 0x0D000009003F
