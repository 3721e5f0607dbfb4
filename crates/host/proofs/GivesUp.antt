-- "Not ready" exactly when the limit's last poll still shows busy.
use mathlib.Core.Path.{◌≡◌, refl, sym, ap, subst, ◌∙◌}
use mathlib.Core.Bool.{Bool, true, false, cond, not, ◌&&◌, false≢true, and-eq-true_iff}
use mathlib.Core.List.{List, [], ◌∷◌, ◌++◌}
use mathlib.Core.Logic.{inl, inr}
use Prim.Native.Nat.{ℕ, ◌+◌, ◌≤◌}
use native.Mathlib.Omega.{arith}
use borrow.Author.Tests.{leb-true, leb-false, le-leb}
use lib.Dec.{eqb, leb, ltb}
use lib.ListN.{length, get_or}
use Rattle.crc.specs.Bits.{bit}
use Rattle.codec.specs.Answer.{Outcome, done, refused, BUFFER}
use Rattle.codec.specs.Format.{decode}
use Rattle.wire_response.specs.Response.{r1, r3, r6, r7, decode_r2}
use Rattle.host.specs.declared.Command.{Command}
use Rattle.host.specs.declared.Command.TheVariants.{GoIdleState, SendIfCond, AppCmd, SdSendOpCond, AllSendCid, SendRelativeAddr, SendCsd, SelectCard}
use Rattle.host.specs.declared.Phase.{Phase}
use Rattle.host.specs.declared.Phase.TheVariants.{Start, Sent, Ended}
use Rattle.host.specs.declared.Found.{Found}
use Rattle.host.specs.declared.Host.{Host}
use Rattle.std.specs.Prelude.{Some}
use Rattle.host.specs.Sequence.{VOLTAGE, PATTERN, SD_SEND_OP_COND, row}
use Rattle.host.specs.Reply.{Heard, Echo, Judged, Expected, Busy, Unexpected, accepted, ready, echoed, judge}
use Rattle.host.specs.Host.{Word, sent, selected, stopped, not_ready, Result, begin, UNSOUND, CLOSED, ROOM, unsound, end, counted, sends, of_poll, goes, answered, hears, turns, step}
use Rattle.host.specs.History.{Feed, fed, next, after, sent_by, frames, is_poll, last_of, busy, LastPollBusy, GivesUp}
use Rattle.host.proofs.Range.{InRange, in_range}
use Rattle.host.proofs.Steps.{cond_elim, row-index, Due, Polls, Spent, Because, step-either}
use Rattle.host.proofs.History.{sent-frame, poll-row, polls-counted}

-- ---- a history's phase, its polls and the frame s that was sent last

-- the commands before the first A41 of a poll
abbrev early : Command → Bool
early GoIdleState = true
early SendIfCond = true
early AppCmd = true
early SdSendOpCond = false
early AllSendCid = false
early SendRelativeAddr = false
early SendCsd = false
early SelectCard = false

abbrev At : Phase → ℕ → ℕ → List ℕ → Type 0
At Start limit polls s = polls ≡ 0
At (Sent k) limit polls s = (early k ≡ true → polls + 1 ≤ limit) × (is_poll s ≡ eqb (row k 0).index SD_SEND_OP_COND)
At Ended limit polls s = Unit {0}

abbrev Kept : Host → List ℕ → Type 0
Kept h s = At h.phase h.limit h.polls s

some_inj : (a b : Command) → Some a ≡ Some b → a ≡ b
some_inj a b e = cc

-- a poll is left for a command of one
test-left : (a more : Bool) → a ≡ true → (a && more) ≡ false → more ≡ false
test-left true more q e = e
test-left false more q e = absurd (false≢true q)

module _ (limit polls : ℕ) (s : List ℕ) (r : InRange limit polls) where
  -- what is to be shown of a command that is sent
  abbrev Early : Command → Type 0
  Early k = (of_poll (row k 0).index && leb limit polls) ≡ false → early k ≡ true → counted (row k 0).index polls + 1 ≤ limit

  app : Early AppCmd
  unfolding row counted
  app e q = let h = leb-false limit polls (test-left true (leb limit polls) refl e) in omega (arith, h)

  late : (k : Command) → early k ≡ false → Early k
  late k l e q = absurd (false≢true (sym l ∙ q))

  follow : (j k : Command) → (early j ≡ true → polls + 1 ≤ limit) → (row j 0).next ≡ Some k → Early k
  unfolding row counted
  follow GoIdleState k few n = subst Early (some_inj SendIfCond k n) (λ e q. few refl)
  follow SendIfCond k few n = subst Early (some_inj AppCmd k n) app
  follow AppCmd k few n = subst Early (some_inj SdSendOpCond k n) (late SdSendOpCond refl)
  follow SdSendOpCond k few n = subst Early (some_inj AllSendCid k n) (late AllSendCid refl)
  follow AllSendCid k few n = subst Early (some_inj SendRelativeAddr k n) (late SendRelativeAddr refl)
  follow SendRelativeAddr k few n = subst Early (some_inj SendCsd k n) (late SendCsd refl)
  follow SendCsd k few n = subst Early (some_inj SelectCard k n) (late SelectCard refl)
  follow SelectCard k few n = cc

  due : (p : Phase) (k : Command) → At p limit polls s → Due p k → Early k
  unfolding row counted
  due Start k none e = subst Early e (λ t q. let l = r.least in omega (arith, none, l))
  due (Sent j) k (few, last) (inl n) = follow j k few n
  due (Sent j) k (few, last) (inr e) = subst Early e app
  due Ended k u e = absurd e

sends-kept : (h : Host) (f : Found) (k : Command) (out s : List ℕ) → Kept h s → unsound h.limit h.polls ≡ false → Due h.phase k
    → (of_poll (row k f.rca).index && leb h.limit h.polls) ≡ false
    → let r = sends h f k out in Kept r.host (last_of s (sent_by r.answer r.out))
unfolding sends
sends-kept h f k out s kept sound d e =
    let i = row-index k f.rca in
    let fewer : (of_poll (row k 0).index && leb h.limit h.polls) ≡ false =
    ap (λ (n : ℕ). of_poll n && leb h.limit h.polls) (sym i) ∙ e in
    subst (λ (ss : List (List ℕ)). At (Sent k) h.limit (counted (row k f.rca).index h.polls) (last_of s ss))
    (sym (sent-frame h f k out)) (
      (λ q. subst (λ (n : ℕ). counted n h.polls + 1 ≤ h.limit) (sym i)
          (due h.limit h.polls s (in_range _ _ sound) h.phase k kept d fewer q)),
      poll-row k f.rca ∙ ap (λ (n : ℕ). eqb n SD_SEND_OP_COND) i,
    )

step_kept : (h : Host) (x : Feed) (s : List ℕ) → Kept h s → Kept (next h x) (last_of s (sent_by (fed h x).answer (fed h x).out))
unfolding end
step_kept h x s kept =
    step-either h x.reply x.out (λ r. Kept r.host (last_of s (sent_by r.answer r.out)))
    (λ k. kept) (λ c f a e b. tt) (λ c f k d e. sends-kept h f k x.out s kept c d e)

last_of_append : (s : List ℕ) (xs ys : List (List ℕ)) → last_of s (xs ++ ys) ≡ last_of (last_of s xs) ys
last_of_append s [] ys = refl
last_of_append s (x ∷ xs) ys = last_of_append x xs ys

history-kept : (h : Host) (xs : List Feed) (s : List ℕ) → Kept h s → Kept (after h xs) (last_of s (frames h xs))
history-kept h [] s kept = kept
history-kept h (x ∷ xs) s kept =
    let here = sent_by (fed h x).answer (fed h x).out in
    subst (Kept (after h (x ∷ xs))) (sym (last_of_append s here (frames (next h x) xs)))
    (history-kept (next h x) xs (last_of s here) (step_kept h x s kept))

-- ---- the limit stays

step-limit : (h : Host) (x : Feed) → (next h x).limit ≡ h.limit
unfolding end sends
step-limit h x = step-either h x.reply x.out (λ r. r.host.limit ≡ h.limit) (λ k. refl) (λ c f a e b. refl) (λ c f k d e. refl)

limit-stays : (h : Host) (xs : List Feed) → (after h xs).limit ≡ h.limit
limit-stays h [] = refl
limit-stays h (x ∷ xs) = limit-stays (next h x) xs ∙ step-limit h x

-- ---- judgements

abbrev is_busy : Judged → Bool
is_busy Expected = false
is_busy Busy = true
is_busy (Unexpected r) = false

accepted-busy : (o : Outcome (List ℕ)) (then : List ℕ → Judged) → ((fields : List ℕ) → is_busy (then fields) ≡ false)
    → is_busy (accepted o then) ≡ false
accepted-busy (done fields) then h = h fields
accepted-busy (refused k) then h = refl

cond-busy : (b : Bool) (x y : Judged) → is_busy x ≡ false → is_busy y ≡ false → is_busy (cond b x y) ≡ false
cond-busy true x y p q = p
cond-busy false x y p q = q

ready-busy : (o : Outcome (List ℕ)) → is_busy (accepted o (λ fields. ready (get_or fields 0 0))) ≡ busy o
ready-busy (done fields) = go (bit (get_or fields 0 0) 31)
  where
    go : (b : Bool) → is_busy (cond b Expected Busy) ≡ not b
    go true = refl
    go false = refl
ready-busy (refused k) = refl

-- an A41 alone can be answered busy
judge-busy : (k : Command) (rca : ℕ) (reply : List ℕ) → is_busy (judge (row k rca).answer (row k rca).index reply)
    ≡ (eqb (row k 0).index SD_SEND_OP_COND && busy (decode r3 reply))
unfolding row judge
judge-busy GoIdleState rca reply = cond-busy (eqb (length reply) 0) Expected (Unexpected Heard) refl refl
judge-busy SendIfCond rca reply =
    accepted-busy (decode r7 reply) (λ fields. echoed (get_or fields 0 0) (get_or fields 1 0))
    (λ fields. cond-busy (eqb (get_or fields 0 0) VOLTAGE && eqb (get_or fields 1 0) PATTERN) Expected (Unexpected Echo) refl refl)
judge-busy AppCmd rca reply = accepted-busy (decode (r1 55) reply) (λ fields. Expected) (λ fields. refl)
judge-busy SdSendOpCond rca reply = ready-busy (decode r3 reply)
judge-busy AllSendCid rca reply = accepted-busy (decode_r2 reply) (λ fields. Expected) (λ fields. refl)
judge-busy SendRelativeAddr rca reply = accepted-busy (decode r6 reply) (λ fields. Expected) (λ fields. refl)
judge-busy SendCsd rca reply = accepted-busy (decode_r2 reply) (λ fields. Expected) (λ fields. refl)
judge-busy SelectCard rca reply = accepted-busy (decode (r1 7) reply) (λ fields. Expected) (λ fields. refl)

-- ---- only then

abbrev is_not_ready : Outcome Word → Bool
is_not_ready (done (sent n)) = false
is_not_ready (done selected) = false
is_not_ready (done (stopped k r)) = false
is_not_ready (done not_ready) = true
is_not_ready (refused k) = false

record Gave (h : Host) (reply : List ℕ) : Type 0 where
  pub sound : unsound h.limit h.polls ≡ false
  pub spent : Spent h h.phase reply

gave : (h : Host) (x : Feed) → is_not_ready (fed h x).answer ≡ true → Gave h x.reply
unfolding end sends
gave h x =
    step-either h x.reply x.out (λ r. is_not_ready r.answer ≡ true → Gave h x.reply)
    (λ k q. absurd (false≢true q)) (λ c f a e b q. why c a b q) (λ c f k d e q. absurd (false≢true q))
  where
    why : unsound h.limit h.polls ≡ false → (a : Word) → Because h h.phase x.reply a → is_not_ready (done a) ≡ true → Gave h x.reply
    why c (sent n) b q = absurd (false≢true q)
    why c selected b q = absurd (false≢true q)
    why c (stopped k r) b q = absurd (false≢true q)
    why c not_ready b q = record { sound = c; spent = b }

-- a command of a poll follows an early one
polls-early : (j : Command) → Polls j → early j ≡ true
unfolding row
polls-early GoIdleState p = absurd (false≢true (ap (λ (k : Command). of_poll (row k 0).index) (some_inj SendIfCond p.command p.follows) ∙ p.polls))
polls-early SendIfCond p = refl
polls-early AppCmd p = refl
polls-early SdSendOpCond p = absurd (false≢true (ap (λ (k : Command). of_poll (row k 0).index) (some_inj AllSendCid p.command p.follows) ∙ p.polls))
polls-early AllSendCid p = absurd (false≢true (ap (λ (k : Command). of_poll (row k 0).index) (some_inj SendRelativeAddr p.command p.follows) ∙ p.polls))
polls-early SendRelativeAddr p = absurd (false≢true (ap (λ (k : Command). of_poll (row k 0).index) (some_inj SendCsd p.command p.follows) ∙ p.polls))
polls-early SendCsd p = absurd (false≢true (ap (λ (k : Command). of_poll (row k 0).index) (some_inj SelectCard p.command p.follows) ∙ p.polls))
polls-early SelectCard p = let f = p.follows in cc

-- so it is A41 that was answered busy
record Shown (polls limit : ℕ) (s reply : List ℕ) : Type 0 where
  pub spent : limit ≤ polls
  pub last : is_poll s ≡ true
  pub shown : busy (decode r3 reply) ≡ true

shows : (h : Host) (p : Phase) (s reply : List ℕ) → At p h.limit h.polls s → Spent h p reply → Shown h.polls h.limit s reply
shows h Start s reply kept e = absurd e
shows h (Sent j) s reply (few, last) (l, inl p) =
    let a = few (polls-early j p) in
    let b = leb-true h.limit h.polls l in
    absurd (omega (arith, a, b))
shows h (Sent j) s reply (few, last) (l, inr e) =
    let both = (and-eq-true_iff (eqb (row j 0).index SD_SEND_OP_COND) (busy (decode r3 reply))).0
    (sym (judge-busy j h.found.rca reply) ∙ ap is_busy e) in
    record { spent = leb-true h.limit h.polls l; last = last ∙ both.0; shown = both.1 }
shows h Ended s reply kept e = absurd e

module _ (limit : ℕ) (xs : List Feed) where
  abbrev h : Host
  h = after (begin limit) xs

  abbrev last : List ℕ
  last = last_of [] (frames (begin limit) xs)

  kept : Kept h last
  kept = history-kept (begin limit) xs [] refl

  only : (x : Feed) → (fed h x).answer ≡ done not_ready → LastPollBusy limit xs x.reply
  only x e =
      let g = gave h x (ap is_not_ready e) in
      let w = shows h h.phase last x.reply kept g.spent in
      let most = (in_range h.limit h.polls g.sound).polled in
      let least = w.spent in
      let limits = limit-stays (begin limit) xs in
      let counted = polls-counted.started limit xs in
      record { polls = omega (arith, most, least, limits, counted); last = w.last; shown = w.shown }

-- ---- and then always

-- refused, or given up
abbrev Up : Result → Type 0
Up r = ((k : ℕ) → r.answer ≡ refused k → ⊥) → r.answer ≡ done not_ready

-- A41 is the command of its index
a41 : (k : Command) → eqb (row k 0).index SD_SEND_OP_COND ≡ true → k ≡ SdSendOpCond
unfolding row
a41 GoIdleState e = absurd (false≢true e)
a41 SendIfCond e = absurd (false≢true e)
a41 AppCmd e = absurd (false≢true e)
a41 SdSendOpCond e = refl
a41 AllSendCid e = absurd (false≢true e)
a41 SendRelativeAddr e = absurd (false≢true e)
a41 SendCsd e = absurd (false≢true e)
a41 SelectCard e = absurd (false≢true e)

is_busy_lem : (j : Judged) → is_busy j ≡ true → j ≡ Busy
is_busy_lem Expected e = absurd (false≢true e)
is_busy_lem Busy e = refl
is_busy_lem (Unexpected r) e = absurd (false≢true e)

-- the last poll's answer
hears-busy : (h : Host) (reply out : List ℕ) → leb h.limit h.polls ≡ true → busy (decode r3 reply) ≡ true
    → (hears h SdSendOpCond reply out).answer ≡ done not_ready
unfolding hears answered goes row end
hears-busy h reply out l b =
    let j : judge (row SdSendOpCond h.found.rca).answer (row SdSendOpCond h.found.rca).index reply ≡ Busy =
    is_busy_lem _ (judge-busy SdSendOpCond h.found.rca reply ∙ b) in
    rw (j, l) refl

turns_up : (h : Host) (p : Phase) (s reply out : List ℕ) → At p h.limit h.polls s → 1 ≤ h.limit → h.limit ≤ h.polls → is_poll s ≡ true
    → busy (decode r3 reply) ≡ true → Up (turns p h reply out)
unfolding turns
turns_up h Start s reply out none least spent final b ran = absurd (omega (arith, none, least, spent))
turns_up h (Sent k) s reply out (few, is) least spent final b ran =
    subst (λ (j : Command). (hears h j reply out).answer ≡ done not_ready) (sym (a41 k (sym is ∙ final)))
    (hears-busy h reply out (le-leb h.limit h.polls spent) b)
turns_up h Ended s reply out e least spent final b ran = absurd (ran CLOSED refl)

always : (limit : ℕ) (xs : List Feed) (x : Feed) → LastPollBusy limit xs x.reply → Up (fed (after (begin limit) xs) x)
unfolding step
always limit xs x b =
    let h = after (begin limit) xs in
    let limits = limit-stays (begin limit) xs in
    let counted = polls-counted.started limit xs in
    let spent : h.limit ≤ h.polls = let p = b.polls in omega (arith, limits, counted, p) in
    cond_elim Up (unsound h.limit h.polls) (λ e ran. absurd (ran UNSOUND refl))
    (λ c. cond_elim Up (ltb (length x.out) ROOM) (λ e ran. absurd (ran BUFFER refl))
    (λ e. turns_up h h.phase (last_of [] (frames (begin limit) xs)) x.reply x.out (kept limit xs)
    (in_range h.limit h.polls c).least spent b.last b.shown))

pub gives_up : GivesUp
gives_up limit xs x = record { only = only limit xs x; always = always limit xs x }
