-- Host and card joined: place by place, from the last to the first.
use mathlib.Core.Path.{◌≡◌, refl, sym, subst}
use mathlib.Core.Bool.{Bool, true, false, ◌&&◌, and-eq-true_iff}
use mathlib.Core.List.{List, []}
use Prim.Native.Nat.{ℕ, zero, suc, ◌+◌, ◌*◌, ◌≤◌}
use native.Mathlib.Omega.{arith}
use borrow.Author.Tests.{lt-leb}
use lib.Dec.{leb}
use lib.ListN.{replicate}
use Rattle.std.specs.Prelude.{Some}
use Rattle.wire_response.specs.Response.{r2_bytes}
use Rattle.host.specs.declared.Command.{Command}
use Rattle.host.specs.declared.Command.TheVariants.{GoIdleState, SendIfCond, AppCmd, SdSendOpCond, AllSendCid, SendRelativeAddr, SendCsd, SelectCard}
use Rattle.host.specs.declared.Phase.{Phase}
use Rattle.host.specs.declared.Phase.TheVariants.{Start, Sent}
use Rattle.host.specs.declared.Found.{Found}
use Rattle.host.specs.declared.Host.{Host}
use Rattle.host.specs.Sequence.{row}
use Rattle.host.specs.Reply.{Expected, with_rca, with_cid, with_csd, judge, learn}
use Rattle.host.specs.Host as Host
use Rattle.host.specs.Host.{MOST, Result, unknown, begin, unsound, end, counted, sends, of_poll}
use Rattle.card.specs.declared.Settings.{Settings}
use Rattle.card.specs.declared.Password.{Password}
use Rattle.card.specs.declared.State.{State}
use Rattle.card.specs.declared.State.TheVariants.{Idle, Ready, Ident, Stby, Tran}
use Rattle.card.specs.declared.Card.{Card}
use Rattle.card.specs.Settings.{allowed, csd_of, cid_bytes, csd_bytes}
use Rattle.card.specs.Lock.{password_of, content, is_set}
use Rattle.card.specs.Step.{World, world, fresh, start}
use Rattle.card.specs.History.{Sound}
use Rattle.card.proofs.Sound.{starts-sound}
use Rattle.host.proofs.Range.{range_sound}
use Rattle.host_card.specs.Joined.{Buffers, meeting, joined, BroughtUp, BringsUp}
use Rattle.host_card.proofs.Exchange.{Turns, exchange}
use Rattle.host_card.proofs.Sends.{sends-first, sends-next, polls-again, selects}
use Rattle.host_card.proofs.Turns.{at, answers, echo, marked, busy_ocr, ready_ocr, published, chosen}
use Rattle.host_card.proofs.Replies.{echo-expected, marked-expected, still-busy, ready-expected, rca-expected, rca-learnt, chosen-expected, cid-back, cid-expected, cid-learnt, csd-back, csd-expected, csd-learnt}

module _
    (s : Settings) (permitted : allowed s ≡ true) (password : Password) (locked : Bool) (marks memory : List ℕ)
    (limit : ℕ) (enough : s.polls + 1 ≤ limit) (most : limit ≤ MOST) (b : Buffers)
  where
    abbrev host : ℕ → Phase → Found → Host
    host polls phase f = record { limit = limit; polls = polls; phase = phase; found = f }

    sound : (polls : ℕ) → polls ≤ limit → unsound limit polls ≡ false
    sound polls h = range_sound limit polls (record { least = omega arith; most = most; polled = h })

    -- what is left to show at a place
    abbrev Up : ℕ → Host → World → List ℕ → Type 0
    Up n h w reply = BroughtUp s memory (joined n b h w reply)

    abbrev card : State → ℕ → ℕ → Bool → World
    card = at s password marks memory locked

    -- an expected reply, and the exchange that the next command makes
    replied : (n polls : ℕ) {w v : World} (reply : List ℕ) {heard : List ℕ} (f g : Found) (k next : Command) → polls ≤ limit
        → judge (row k f.rca).answer (row k f.rca).index reply ≡ Expected → learn (row k f.rca).answer f reply ≡ g
        → (row k f.rca).next ≡ Some next → (of_poll (row next g.rca).index && leb limit polls) ≡ false
        → Turns w (row next g.rca).index (row next g.rca).argument v heard
        → (Sound v → Up n (sends (host polls (Sent k) f) g next (b.host (suc n))).host v heard) → Sound w → Up (suc n) (host polls (Sent k) f) w reply
    replied n polls {w} {v} reply {heard} f g k next few j l e more t then here =
        let h = host polls (Sent k) f in
        exchange (BroughtUp s memory) n b h w v reply heard g next here
        (sends-next h reply (b.host (suc n)) (sound polls few) (b.host_room (suc n)) k g refl l j next e more) t then

    -- ---- behind the polls

    abbrev all : ℕ
    all = s.polls + 1

    abbrev cid_r2 : List ℕ
    cid_r2 = r2_bytes (cid_bytes s)

    abbrev csd_r2 : List ℕ
    csd_r2 = r2_bytes (csd_bytes (csd_of s))

    abbrev named : Found
    named = with_cid unknown (cid_bytes s)

    abbrev addressed : Found
    addressed = with_rca named 1

    abbrev known : Found
    known = with_csd addressed (csd_bytes (csd_of s))

    to-select : Up 0 (host all (Sent SelectCard) known) (card Tran 1 0 false) (chosen locked)
    unfolding joined end row learn
    to-select =
        subst (λ (r : Result). BroughtUp s memory (meeting r (card Tran 1 0 false) 0))
        (sym
        (selects (host all (Sent SelectCard) known) (chosen locked) (b.host 0) (sound all enough) (b.host_room 0) SelectCard known refl refl
        (chosen-expected locked) refl))
        (record { answer = refl; exchanges = refl; polls = refl; rca = refl; cid = cid-back s permitted; csd = csd-back s; state = refl; memory = refl })

    to-csd : Sound (card Stby 1 0 false) → Up 1 (host all (Sent SendCsd) addressed) (card Stby 1 0 false) csd_r2
    unfolding row sends counted
    to-csd =
        replied 0 all csd_r2 addressed known SendCsd SelectCard enough (csd-expected s) (csd-learnt s addressed) refl refl
        (answers s password marks memory locked).select_card (λ next. to-select)

    to-rca : Sound (card Stby 1 0 false) → Up 2 (host all (Sent SendRelativeAddr) named) (card Stby 1 0 false) published
    unfolding row sends counted
    to-rca =
        replied 1 all published named addressed SendRelativeAddr SendCsd enough rca-expected (rca-learnt named) refl refl
        (answers s password marks memory locked).send_csd to-csd

    to-cid : Sound (card Ident 0 0 false) → Up 3 (host all (Sent AllSendCid) unknown) (card Ident 0 0 false) cid_r2
    unfolding row sends counted
    to-cid =
        replied 2 all cid_r2 unknown named AllSendCid SendRelativeAddr enough (cid-expected s permitted) (cid-learnt s permitted unknown)
        refl refl
        (answers s password marks memory locked).send_relative_addr to-rca

    to-ready : Sound (card Ready 0 0 false) → Up 4 (host all (Sent SdSendOpCond) unknown) (card Ready 0 0 false) ready_ocr
    unfolding row sends counted learn
    to-ready =
        replied 3 all ready_ocr unknown unknown SdSendOpCond AllSendCid enough ready-expected refl refl refl
        (answers s password marks memory locked).all_send_cid to-cid

    -- ---- the polls

    -- the host's step sends 55
    abbrev Polls : ℕ → ℕ → Phase → List ℕ → Type 0
    Polls m n phase reply = Host.step (host n phase unknown) reply (b.host m) ≡ sends (host n phase unknown) unknown AppCmd (b.host m)

    -- 55 and A41
    poll : (n q polls : ℕ) (phase : Phase) (reply : List ℕ) {v : World} {heard : List ℕ} → polls + 1 ≤ limit
        → Polls (suc (suc n)) polls phase reply → Turns (card Idle 0 q true) 41 0xFF8000 v heard
        → (Sound v → Up n (host (polls + 1) (Sent SdSendOpCond) unknown) v heard)
        → Sound (card Idle 0 q false) → Up (suc (suc n)) (host polls phase unknown) (card Idle 0 q false) reply
    unfolding row sends counted learn
    poll n q polls phase reply few e t then here =
        exchange (BroughtUp s memory) (suc n) b (host polls phase unknown) (card Idle 0 q false) (card Idle 0 q true) reply (marked locked)
        unknown AppCmd here e ((answers s password marks memory locked).app_cmd q)
        (replied n polls (marked locked) unknown unknown AppCmd SdSendOpCond (omega arith) (marked-expected locked) refl refl
        (lt-leb limit polls (omega arith)) t then)

    polls : (q polls : ℕ) (phase : Phase) (reply : List ℕ) → polls + q ≡ s.polls → Polls (2 * q + 6) polls phase reply
        → Sound (card Idle 0 q false) → Up (2 * q + 6) (host polls phase unknown) (card Idle 0 q false) reply
    unfolding row learn
    polls zero n phase reply count e here =
        let ended : n + 1 ≡ all = omega arith in
        poll 4 0 n phase reply (omega arith) e (answers s password marks memory locked).ready (rw ended to-ready) here
    polls (suc q) n phase reply count e here =
        let more : 2 * suc q + 6 ≡ suc (suc (2 * q + 6)) = omega arith in
        let again : Polls (2 * q + 6) (n + 1) (Sent SdSendOpCond) busy_ocr =
        polls-again (host (n + 1) (Sent SdSendOpCond) unknown) busy_ocr (b.host (2 * q + 6)) (sound (n + 1) (omega arith)) (b.host_room (2 * q + 6))
        SdSendOpCond unknown refl refl still-busy (lt-leb limit (n + 1) (omega arith)) in
        rw more
        (poll (2 * q + 6) (suc q) n phase reply (omega arith) (subst (λ (m : ℕ). Polls m n phase reply) more e) ((answers s password marks memory locked).still_busy q)
        (polls q (n + 1) (Sent SdSendOpCond) busy_ocr (omega arith) again) here)

    -- ---- from the start

    to-echo : Sound (card Idle 0 s.polls false) → Up (2 * s.polls + 6) (host 0 (Sent SendIfCond) unknown) (card Idle 0 s.polls false) echo
    unfolding row learn
    to-echo =
        polls s.polls 0 (Sent SendIfCond) echo (omega arith)
        (sends-next (host 0 (Sent SendIfCond) unknown) echo (b.host (2 * s.polls + 6)) (sound 0 (omega arith)) (b.host_room (2 * s.polls + 6))
        SendIfCond unknown refl refl echo-expected AppCmd refl (lt-leb limit 0 (omega arith)))

    to-silence : Sound (card Idle 0 s.polls false)
        → Up (suc (2 * s.polls + 6)) (host 0 (Sent GoIdleState) unknown) (card Idle 0 s.polls false) []
    unfolding row sends counted learn judge
    to-silence =
        replied (2 * s.polls + 6) 0 [] unknown unknown GoIdleState SendIfCond (omega arith) refl refl refl refl
        ((answers s password marks memory locked).send_if_cond s.polls) to-echo

    from_start : Sound (card Idle 0 s.polls false) → Up (2 * s.polls + 8) (host 0 Start unknown) (card Idle 0 s.polls false) []
    unfolding row sends counted
    from_start here =
        let count : 2 * s.polls + 8 ≡ suc (suc (2 * s.polls + 6)) = omega arith in
        let w = card Idle 0 s.polls false in
        rw count
        (exchange (BroughtUp s memory) (suc (2 * s.polls + 6)) b (host 0 Start unknown) w w [] [] unknown GoIdleState here
        (sends-first (host 0 Start unknown) [] (b.host (suc (suc (2 * s.polls + 6)))) (sound 0 (omega arith)) (b.host_room (suc (suc (2 * s.polls + 6)))) refl)
        (answers s password marks memory locked).go_idle_state to-silence)

pub brings-up : BringsUp
unfolding start fresh
brings-up w h limit enough most b =
    let s = h.settings in
    subst (λ (c : Card). let w = world c w.memory in Sound w → BroughtUp s w.memory (joined (2 * s.polls + 8) b (begin limit) w []))
    (sym h.powered) (from_start s ((and-eq-true_iff (allowed s) _).0 h.allowed).0 (password_of (content h.password)) (is_set (password_of (content h.password))) (replicate 256 0) w.memory limit enough most b)
    (starts-sound w h)
