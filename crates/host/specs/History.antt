-- A host's history is the list of replies that it is fed, each with the output buffer that the step is lent. The claims of 02's
-- order 2 about all of them, refused steps included.
use Rattle.std.specs.Prelude.{◌≡◌, Bool, true, false, cond, not, ◌||◌, List, [], ◌∷◌, ◌++◌, ℕ, ◌+◌, eqb, take, get_or}
use Rattle.crc.specs.Bits.{bit}
use Rattle.codec.specs.Answer.{Outcome, done, refused}
use Rattle.codec.specs.Format.{decode}
use Rattle.wire_response.specs.Response.{r3}
use Rattle.host.specs.declared.Host.{Host}
use Rattle.host.specs.Sequence.{SD_SEND_OP_COND}
use Rattle.host.specs.Host.{Word, sent, selected, stopped, not_ready, Result, begin, unsound, step}

pub record Feed : Type 0 where
  pub reply : List ℕ
  pub out : List ℕ

abbrev pub fed : Host → Feed → Result
fed h x = step h x.reply x.out

abbrev pub next : Host → Feed → Host
next h x = (fed h x).host

-- the record behind a history
abbrev pub after : Host → List Feed → Host
after h [] = h
after h (x ∷ xs) = after (next h x) xs

-- ---- what is sent

-- the frame of a step: so many bytes of its output buffer, or none
abbrev pub sent_by : Outcome Word → List ℕ → List (List ℕ)
sent_by (done (sent n)) out = take n out ∷ []
sent_by (done selected) out = []
sent_by (done (stopped k r)) out = []
sent_by (done not_ready) out = []
sent_by (refused k) out = []

abbrev pub frames : Host → List Feed → List (List ℕ)
frames h [] = []
frames h (x ∷ xs) = sent_by (fed h x).answer (fed h x).out ++ frames (next h x) xs

-- A41 by its first byte: start bit 0, transmission bit 1, index 41
abbrev pub is_poll : List ℕ → Bool
is_poll s = eqb (get_or s 0 0) (64 + SD_SEND_OP_COND)

abbrev pub polls_in : List (List ℕ) → ℕ
polls_in [] = 0
polls_in (s ∷ ss) = cond (is_poll s) (polls_in ss + 1) (polls_in ss)

-- ---- the polls reported equal the A41 frames sent

pub record PollsCounted : Type 0 where
  pub started : (limit : ℕ) (xs : List Feed) → (after (begin limit) xs).polls ≡ polls_in (frames (begin limit) xs)
  -- from any record, those that are added
  pub added : (h : Host) (xs : List Feed) → (after h xs).polls ≡ h.polls + polls_in (frames h xs)

-- ---- "not ready" exactly when the limit's last poll still shows busy

-- the last of the frames; nothing where there is none
abbrev pub last_of : List ℕ → List (List ℕ) → List ℕ
last_of s [] = s
last_of s (x ∷ xs) = last_of x xs

-- an R3 that the decoder accepts, with bit 31 clear
abbrev pub busy : Outcome (List ℕ) → Bool
busy (done fields) = not (bit (get_or fields 0 0) 31)
busy (refused k) = false

-- of the history xs, the limit's last poll was sent last, and this reply to it shows busy
pub record LastPollBusy (limit : ℕ) (xs : List Feed) (reply : List ℕ) : Type 0 where
  pub polls : polls_in (frames (begin limit) xs) ≡ limit
  pub last : is_poll (last_of [] (frames (begin limit) xs)) ≡ true
  pub shown : busy (decode r3 reply) ≡ true

pub record Exactly (limit : ℕ) (xs : List Feed) (x : Feed) : Type 0 where
  pub only : (fed (after (begin limit) xs) x).answer ≡ done not_ready → LastPollBusy limit xs x.reply
  -- the step is refused, or gives up
  pub always : LastPollBusy limit xs x.reply → ((k : ℕ) → (fed (after (begin limit) xs) x).answer ≡ refused k → ⊥)
      → (fed (after (begin limit) xs) x).answer ≡ done not_ready

abbrev pub GivesUp : Type 0
GivesUp = (limit : ℕ) (xs : List Feed) (x : Feed) → Exactly limit xs x

-- ---- no frame is sent after the end

-- selected, stopped or not ready
abbrev pub is_end : Outcome Word → Bool
is_end (done (sent n)) = false
is_end (done selected) = true
is_end (done (stopped k r)) = true
is_end (done not_ready) = true
is_end (refused k) = false

-- some step of a history answers an end
abbrev pub ended : Host → List Feed → Bool
ended h [] = false
ended h (x ∷ xs) = is_end (fed h x).answer || ended (next h x) xs

pub record Over (h : Host) (xs : List Feed) : Type 0 where
  pub frames : frames h xs ≡ []
  pub stays : after h xs ≡ h

-- from any record
abbrev pub QuietAfterEnd : Type 0
QuietAfterEnd = (h : Host) (xs ys : List Feed) → ended h xs ≡ true → Over (after h xs) ys

-- ---- every step keeps limit and polls in range

abbrev pub KeepsSound : Type 0
KeepsSound = (h : Host) (x : Feed) → unsound h.limit h.polls ≡ false → unsound (next h x).limit (next h x).polls ≡ false
