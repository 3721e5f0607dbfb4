-- The claims about histories: polls are counted, nothing is sent after the end, and limit and polls stay in range.
use mathlib.Core.Path.{◌≡◌, refl, sym, ap, ap₂, subst, ◌∙◌}
use mathlib.Core.Bool.{Bool, true, false, cond, ◌&&◌, ◌||◌, false≢true}
use mathlib.Core.List.{List, [], ◌∷◌, ◌++◌}
use Prim.Native.Nat.{ℕ, ◌+◌}
use native.Mathlib.Omega.{arith}
use borrow.Author.Tests.{eq-eqb, ne_eqb, eqb-true, eqb-false, leb-false}
use lib.Dec.{eqb, leb, ltb}
use lib.ListN.{length}
use lib.Seq.{take_at}
use Rattle.codec.specs.Answer.{done}
use Rattle.host.specs.declared.Command.{Command}
use Rattle.host.specs.declared.Phase.{Phase}
use Rattle.host.specs.declared.Phase.TheVariants.{Ended}
use Rattle.host.specs.declared.Found.{Found}
use Rattle.host.specs.declared.Host.{Host}
use Rattle.host.specs.Sequence.{APP_CMD, SD_SEND_OP_COND, row}
use Rattle.host.specs.Host.{Word, sent, selected, stopped, not_ready, Result, begin, ROOM, unsound, end, frame, counted, sends, of_poll, turns, step}
use Rattle.host.specs.History.{Feed, fed, next, after, sent_by, frames, is_poll, polls_in, PollsCounted, is_end, ended, Over, QuietAfterEnd, KeepsSound}
use Rattle.host.proofs.Range.{InRange, in_range, range_sound}
use Rattle.host.proofs.Steps.{cond_elim, first_byte, step-either}

-- ---- what is sent

-- the frame of a step that sends one
pub sent-frame : (h : Host) (f : Found) (k : Command) (out : List ℕ)
    → sent_by (sends h f k out).answer (sends h f k out).out ≡ frame (row k f.rca) ∷ []
unfolding sends
sent-frame h f k out = ap (λ (s : List ℕ). s ∷ []) (take_at (frame (row k f.rca)) _ _ refl)

-- an end sends none
pub end_quiet : (a : Word) → is_end (done a) ≡ true → (out : List ℕ) → sent_by (done a) out ≡ []
end_quiet (sent n) e out = absurd (false≢true e)
end_quiet selected e out = refl
end_quiet (stopped k r) e out = refl
end_quiet not_ready e out = refl

-- ---- the polls

pub poll-row : (k : Command) (rca : ℕ) → is_poll (frame (row k rca)) ≡ eqb (row k rca).index SD_SEND_OP_COND
poll-row k rca = ap (λ (n : ℕ). eqb n (64 + SD_SEND_OP_COND)) (first_byte k rca) ∙ by (eqb (row k rca).index SD_SEND_OP_COND) refl
  where
    by : (b : Bool) → eqb (row k rca).index SD_SEND_OP_COND ≡ b → eqb (64 + (row k rca).index) (64 + SD_SEND_OP_COND) ≡ b
    by true e = eq-eqb (64 + (row k rca).index) (64 + 41) (let h = eqb-true (row k rca).index 41 e in omega (arith, h))
    by false e = ne_eqb (64 + (row k rca).index) (64 + 41) (λ z. eqb-false (row k rca).index 41 e (omega (arith, z)))

count : (b : Bool) (polls : ℕ) → cond b (polls + 1) polls ≡ polls + cond b (0 + 1) 0
count true polls = omega arith
count false polls = omega arith

-- polls are counted where an A41 frame is sent
counts : (k : Command) (rca polls : ℕ) → counted (row k rca).index polls ≡ polls + polls_in (frame (row k rca) ∷ [])
unfolding counted
counts k rca polls = rw (poll-row k rca) (count (eqb (row k rca).index SD_SEND_OP_COND) polls)

polls_in_append : (xs ys : List (List ℕ)) → polls_in (xs ++ ys) ≡ polls_in xs + polls_in ys
polls_in_append [] ys = omega arith
polls_in_append (s ∷ xs) ys = go (is_poll s) (polls_in_append xs ys)
  where
    go : (b : Bool) → polls_in (xs ++ ys) ≡ polls_in xs + polls_in ys
        → cond b (polls_in (xs ++ ys) + 1) (polls_in (xs ++ ys)) ≡ cond b (polls_in xs + 1) (polls_in xs) + polls_in ys
    go true e = omega (arith, e)
    go false e = e

-- of one step
sends-adds : (h : Host) (f : Found) (k : Command) (out : List ℕ)
    → (sends h f k out).host.polls ≡ h.polls + polls_in (sent_by (sends h f k out).answer (sends h f k out).out)
unfolding sends
sends-adds h f k out = counts k f.rca h.polls ∙ ap (λ (s : List (List ℕ)). h.polls + polls_in s) (sym (sent-frame h f k out))

step-adds : (h : Host) (x : Feed) → (next h x).polls ≡ h.polls + polls_in (sent_by (fed h x).answer (fed h x).out)
unfolding end
step-adds h x =
    step-either h x.reply x.out (λ r. r.host.polls ≡ h.polls + polls_in (sent_by r.answer r.out))
    (λ k. omega arith)
    (λ s f a e b. rw (end_quiet a e x.out) (omega arith))
    (λ s f k b e. sends-adds h f k x.out)

adds : (h : Host) (xs : List Feed) → (after h xs).polls ≡ h.polls + polls_in (frames h xs)
adds h [] = omega arith
adds h (x ∷ xs) =
    let here = sent_by (fed h x).answer (fed h x).out in
    let a = adds (next h x) xs in
    let b = step-adds h x in
    let c = polls_in_append here (frames (next h x) xs) in
    omega (arith, a, b, c)

pub polls-counted : PollsCounted
polls-counted = record {
  started = λ limit xs. let a = adds (begin limit) xs in omega (arith, a);
  added = adds;
}

-- ---- limit and polls stay in range

-- A41 is sent only while a poll is left
left : (a b more : Bool) → b ≡ true → ((a || b) && more) ≡ false → more ≡ false
left true b more q e = e
left false true more q e = e
left false false more q e = absurd (false≢true q)

sends_range : (k : Command) (rca limit polls : ℕ) → InRange limit polls → (of_poll (row k rca).index && leb limit polls) ≡ false
    → InRange limit (counted (row k rca).index polls)
unfolding counted
sends_range k rca limit polls r e = go (eqb (row k rca).index SD_SEND_OP_COND) refl
  where
    go : (b : Bool) → eqb (row k rca).index SD_SEND_OP_COND ≡ b → InRange limit (cond b (polls + 1) polls)
    go true q =
        let fewer = leb-false limit polls (left (eqb (row k rca).index APP_CMD) (eqb (row k rca).index SD_SEND_OP_COND) (leb limit polls) q e) in
        record { least = r.least; most = r.most; polled = omega (arith, fewer) }
    go false q = r

pub keeps_sound : KeepsSound
unfolding end sends
keeps_sound h x sound =
    step-either h x.reply x.out (λ r. unsound r.host.limit r.host.polls ≡ false)
    (λ k. sound) (λ s f a e b. sound)
    (λ s f k b e. range_sound _ _ (sends_range k f.rca h.limit h.polls (in_range _ _ s) e))

-- ---- the end

-- a step that ends leaves the phase behind the end
end_phase : (h : Host) (x : Feed) → is_end (fed h x).answer ≡ true → (next h x).phase ≡ Ended
unfolding end sends
end_phase h x =
    step-either h x.reply x.out (λ r. is_end r.answer ≡ true → r.host.phase ≡ Ended)
    (λ k e. absurd (false≢true e)) (λ s f a e b q. refl) (λ s f k b e q. absurd (false≢true q))

-- where every step is refused
closed : (h : Host) (x : Feed) → h.phase ≡ Ended → (sent_by (fed h x).answer (fed h x).out ≡ []) × (next h x ≡ h)
unfolding step turns
closed h x e =
    let P : Result → Type 0 = λ r. (sent_by r.answer r.out ≡ []) × (r.host ≡ h) in
    cond_elim P (unsound h.limit h.polls) (λ z. (refl, refl))
    (λ z. cond_elim P (ltb (length x.out) ROOM) (λ z. (refl, refl))
    (λ z. subst (λ (p : Phase). P (turns p h x.reply x.out)) (sym e) (refl, refl)))

over : (h : Host) (xs : List Feed) → h.phase ≡ Ended → Over h xs
over h [] e = record { frames = refl; stays = refl }
over h (x ∷ xs) e =
    let c = closed h x e in
    let o = over h xs e in
    record {
      frames = ap₂ (λ (a b : List (List ℕ)). a ++ b) c.0 (ap (λ (g : Host). frames g xs) c.1 ∙ o.frames);
      stays = ap (λ (g : Host). after g xs) c.1 ∙ o.stays;
    }

-- the phase stays behind the end
pub stays-ended : (h : Host) (xs : List Feed) → h.phase ≡ Ended → (after h xs).phase ≡ Ended
stays-ended h xs e = ap (λ (g : Host). g.phase) (over h xs e).stays ∙ e

ended_phase : (h : Host) (xs : List Feed) → ended h xs ≡ true → (after h xs).phase ≡ Ended
ended_phase h [] e = absurd (false≢true e)
ended_phase h (x ∷ xs) e = go (is_end (fed h x).answer) refl (ended_phase (next h x) xs) e
  where
    go : (b : Bool) → is_end (fed h x).answer ≡ b → (ended (next h x) xs ≡ true → (after (next h x) xs).phase ≡ Ended)
        → (b || ended (next h x) xs) ≡ true → (after (next h x) xs).phase ≡ Ended
    go true q later e = stays-ended (next h x) xs (end_phase h x q)
    go false q later e = later e

pub quiet-after_end : QuietAfterEnd
quiet-after_end h xs ys e = over (after h xs) ys (ended_phase h xs e)
