-- Readings of the host, as one table: replies that it is fed, and what each step answers.
use Rattle.std.specs.Prelude.{◌≡◌, List, [], ◌∷◌, ◌++◌, map, ℕ, take, replicate}
use Rattle.crc.specs.Bits.{bits, number, bits_of, bytes}
use Rattle.codec.specs.Answer.{Outcome, done, refused}
use Rattle.host.specs.declared.Command.{Command}
use Rattle.host.specs.declared.Command.TheVariants.{GoIdleState, SendIfCond, AppCmd, SdSendOpCond, AllSendCid, SendRelativeAddr, SendCsd, SelectCard}
use Rattle.host.specs.declared.Host.{Host}
use Rattle.host.specs.Reply.{Cause, Refused, Heard, Echo}
use Rattle.host.specs.Host.{Word, sent, selected, stopped, not_ready, begin, step}

-- what a step says: the next frame as a number; an end, with the polls; the number of a refusal
pub data Says : Type 0 where
  frame : ℕ → Says
  selected_with : ℕ → ℕ → Says
  stopped_at : Command → Cause → ℕ → Says
  gave_up : ℕ → Says
  refuses : ℕ → Says

abbrev pub said : Outcome Word → Host → List ℕ → Says
said (done (sent n)) h out = frame (number (bits_of (take n out)))
said (done selected) h out = selected_with h.found.rca h.polls
said (done (stopped k r)) h out = stopped_at k r h.polls
said (done not_ready) h out = gave_up h.polls
said (refused k) h out = refuses k

-- a step for each reply, with an output buffer of 17 bytes
abbrev pub spoken : Host → List (List ℕ) → List Says
spoken h [] = []
spoken h (s ∷ ss) = let r = step h s (replicate 17 0) in said r.answer r.host r.out ∷ spoken r.host ss

-- a reply of six bytes, and an R2
abbrev pub six : ℕ → List ℕ
six n = bytes 6 (bits 48 n)

abbrev pub seventeen : ℕ → List ℕ
seventeen n = bytes 17 (bits 136 n)

pub record Example : Type 0 where
  pub limit : ℕ
  pub replies : List (List ℕ)
  pub says : List Says

abbrev pub history : ℕ → List (List ℕ) → List Says → Example
history limit replies says = record { limit = limit; replies = replies; says = says }

-- ---- a card of 64 blocks

abbrev pub echo : List ℕ
echo = six 0x08000001AA13

abbrev pub marked : List ℕ
marked = six 0x370000012083

abbrev pub busy : List ℕ
busy = six 0x3F00FF8000FF

abbrev pub ready : List ℕ
ready = six 0x3F80FF8000FF

-- the first step's reply is not looked at; silence to 0, the echo, and 55 marked
abbrev pub begins : List (List ℕ)
begins = six 0xFFFFFFFFFFFF ∷ [] ∷ echo ∷ marked ∷ []

-- CID, RCA 1, CSD, and selected
abbrev pub identifies : List (List ℕ)
identifies =
    ready ∷ seventeen 0x3F00000000000000000000000000000001 ∷ six 0x0300010500A5
    ∷ seventeen 0x3F002600321F598003C0004F8082400053 ∷ six 0x070000070075 ∷ []

abbrev pub asks : List Says
asks = frame 0x400000000095 ∷ frame 0x48000001AA87 ∷ frame 0x770000000065 ∷ frame 0x6900FF800085 ∷ []

abbrev pub polls : List Says
polls = frame 0x770000000065 ∷ frame 0x6900FF800085 ∷ []

abbrev pub brings : List Says
brings = frame 0x42000000004D ∷ frame 0x430000000021 ∷ frame 0x4900010000F1 ∷ frame 0x4700010000DD ∷ []

abbrev pub examples : List Example
examples =
    -- a ready card, with the smallest limit; no step after the end
    history 1 (begins ++ identifies ++ ([] ∷ marked ∷ [])) (asks ++ brings ++ (selected_with 1 1 ∷ refuses 5 ∷ refuses 5 ∷ []))
    -- busy twice, once with a strange window
    ∷ history 3 (begins ++ (busy ∷ marked ∷ six 0x3F0000001FFF ∷ marked ∷ []) ++ identifies) (asks ++ polls ++ polls ++ brings ++ (selected_with 1 3 ∷ []))
    -- busy to the limit
    ∷ history 2 (begins ++ (busy ∷ marked ∷ busy ∷ [] ∷ [])) (asks ++ polls ++ (gave_up 2 ∷ refuses 5 ∷ []))
    -- something heard after 0, a reply of another size too
    ∷ history 9 ([] ∷ echo ∷ []) (frame 0x400000000095 ∷ stopped_at GoIdleState Heard 0 ∷ [])
    ∷ history 9 ([] ∷ (0 ∷ []) ∷ []) (frame 0x400000000095 ∷ stopped_at GoIdleState Heard 0 ∷ [])
    -- silence to 8; another pattern; another voltage; a damaged echo
    ∷ history 9 ([] ∷ [] ∷ [] ∷ []) (take 2 asks ++ (stopped_at SendIfCond (Refused 1) 0 ∷ []))
    ∷ history 9 ([] ∷ [] ∷ six 0x0800000155E1 ∷ []) (take 2 asks ++ (stopped_at SendIfCond Echo 0 ∷ []))
    ∷ history 9 ([] ∷ [] ∷ six 0x08000002AA29 ∷ []) (take 2 asks ++ (stopped_at SendIfCond Echo 0 ∷ []))
    ∷ history 9 ([] ∷ [] ∷ six 0x08000001AA12 ∷ []) (take 2 asks ++ (stopped_at SendIfCond (Refused 7) 0 ∷ []))
    -- a damaged R1 to 55; one with errors is accepted
    ∷ history 9 ([] ∷ [] ∷ echo ∷ six 0x370000012081 ∷ []) (take 3 asks ++ (stopped_at AppCmd (Refused 7) 0 ∷ []))
    ∷ history 9 ([] ∷ [] ∷ echo ∷ six 0x37004001204F ∷ []) asks
    -- silence to A41, which was sent and counts
    ∷ history 9 (begins ++ ([] ∷ [])) (asks ++ (stopped_at SdSendOpCond (Refused 1) 1 ∷ []))
    -- a register with a wrong check of its own; an R6 of another index; R1 to 7 of another index
    ∷ history 9 (begins ++ (ready ∷ seventeen 0x3F00000000000000000000000000000003 ∷ [])) (asks ++ take 1 brings ++ (stopped_at AllSendCid (Refused 7) 1 ∷ []))
    ∷ history 9 (begins ++ take 2 identifies ++ (marked ∷ [])) (asks ++ take 2 brings ++ (stopped_at SendRelativeAddr (Refused 7) 1 ∷ []))
    ∷ history 9 (begins ++ take 3 identifies ++ (marked ∷ [])) (asks ++ take 3 brings ++ (stopped_at SendCsd (Refused 1) 1 ∷ []))
    ∷ history 9 (begins ++ take 4 identifies ++ (marked ∷ [])) (asks ++ brings ++ (stopped_at SelectCard (Refused 7) 1 ∷ []))
    -- the RCA is the card's
    ∷ history 9 (begins ++ take 2 identifies ++ (six 0x03FFFE050045 ∷ [])) (asks ++ take 2 brings ++ (frame 0x49FFFE000011 ∷ []))
    -- limits out of range
    ∷ history 0 ([] ∷ []) (refuses 2 ∷ [])
    ∷ history 1001 ([] ∷ []) (refuses 2 ∷ [])
    ∷ history 1000 ([] ∷ []) (frame 0x400000000095 ∷ [])
    ∷ []

abbrev pub Readings : Type 0
Readings = map (λ x. spoken (begin x.limit) x.replies) examples ≡ map (λ x. x.says) examples
