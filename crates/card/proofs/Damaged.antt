-- Damage is caught: a copy whose frame check is not right goes unheard, and a data block whose check is wrong is never stored.
use mathlib.Core.Path.{◌≡◌, refl, sym, ap, subst, ◌∙◌}
use mathlib.Core.Bool.{Bool, true, false, cond, not, ◌&&◌, ◌||◌, true≢false}
use mathlib.Core.List.{List, [], ◌∷◌}
use mathlib.Core.Option.{none}
use Prim.Native.Nat.{ℕ, ◌+◌, ◌≤◌}
use native.Mathlib.Omega.{arith}
use borrow.Author.Tests.{eq-eqb, le-ltb}
use lib.Dec.{eqb}
use lib.ListN.{length, get_or, drop}
use Rattle.std.specs.Prelude.{Ok, Err}
use Rattle.codec.specs.Answer.{done}
use Rattle.wire_packet.specs.Packet.{PAYLOAD, CHECK, packet_right, payload_of}
use Rattle.wire_frame.specs.Command.{frame_check, frame_check_by, FrameCheck, good}
use Rattle.wire_frame.proofs.Commands.{checked_by}
use Rattle.wire_frame.specs.declared.command.Fault.TheVariants.{Size, Start, Check}
use Rattle.card.specs.declared.Sink.TheVariants.{Single, Multiple, LockUnlock}
use Rattle.card.specs.declared.State.{State}
use Rattle.card.specs.declared.State.TheVariants.{Idle}
use Rattle.card.specs.declared.Open.{Open}
use Rattle.card.specs.declared.Open.TheVariants.{Nothing, Read, Write, Busy}
use Rattle.card.specs.declared.Core.{Core}
use Rattle.card.specs.declared.Password.{Password}
use Rattle.card.specs.declared.done.Effect.{Effect}
use Rattle.card.specs.declared.done.Flag.{Flag}
use Rattle.card.specs.declared.done.Flag.TheVariants.{Keep}
use Rattle.card.specs.Record.{with_marks, with_state}
use Rattle.card.specs.State.{number, ina, in_spi, checking, locking}
use Rattle.card.specs.Protect.{whole}
use Rattle.card.specs.Effects.{stored, affected}
use Rattle.card.specs.Frame.{Message, silence, plain, token, Turn, quiet, said}
use Rattle.card.specs.Spi.{COM_CRC_ERROR, error_r1, STOP_TRAN, start_token}
use Rattle.card.specs.Receive.{by_check, receive_sd, by_check_spi, receive}
use Rattle.card.specs.Data.{write_into, lock_into, block_into, password_into, ACCEPTED, REJECTED}
use Rattle.card.specs.Soundness.{unsound}
use Rattle.card.specs.Lock.{operation, changed}
use Rattle.card.specs.Step.{block_in, World, answered, Result, refuse, unless, wire, reply_of, flagged, show, applies, refusal, FRAME, ROOM, packet_size, token_size, opened, Incoming, payload, stop, ignored, packet_in, token_in, incoming, success, entered, arrived, frame_refusal, block_refusal, framed, given, step}
use Rattle.card.specs.History.{Sound, SameWorld, NotStored, Checks, Ignored, silence as silent-copy, error as answered-copy, Unheard}
use Rattle.card.proofs.Choices.{cond_elim, cond_either, neither, unless_keeps, spared}
use Rattle.card.proofs.Facts.{facts-sound}
use Rattle.card.proofs.HiddenBits.{written}

-- ---- a copy of a frame

-- what is said to it: nothing, or the error in SPI mode
data Spoken (c : Core) (m : Message) : Type 0 where
  hushed : m ≡ silence → Spoken c m
  erred : in_spi c.bus.mode ≡ true → m ≡ plain (error_r1 COM_CRC_ERROR c) → Spoken c m

-- record, marks and memory stay; in SPI mode what the line knows, too
record Unmoved (c : Core) (t : Turn) : Type 0 where
  core : t.core ≡ c
  message : Spoken c t.message
  effect : t.effect ≡ Effect.Nothing
  flag : in_spi c.bus.mode ≡ true → t.flag ≡ Keep

check-sd : (k : FrameCheck) (c : Core) (low : Bool) → in_spi c.bus.mode ≡ false → ((index argument : ℕ) → k ≡ good index argument → ⊥)
    → Unmoved c (by_check k c low)
unfolding by_check
check-sd (Ok fields) c low sd h = absurd (h fields.index fields.argument refl)
check-sd (Err Size) c low sd h = record { core = refl; message = hushed refl; effect = refl; flag = λ spi. refl }
check-sd (Err Start) c low sd h = record { core = refl; message = hushed refl; effect = refl; flag = λ spi. refl }
check-sd (Err Check) c low sd h = record { core = refl; message = hushed refl; effect = refl; flag = λ spi. absurd (true≢false (sym spi ∙ sd)) }

check-spi : (k : FrameCheck) (c : Core) → in_spi c.bus.mode ≡ true → ((index argument : ℕ) → k ≡ good index argument → ⊥) → Unmoved c (by_check_spi k c)
unfolding by_check_spi
check-spi (Ok fields) c spi h = absurd (h fields.index fields.argument refl)
check-spi (Err Size) c spi h = record { core = refl; message = hushed refl; effect = refl; flag = λ e. refl }
check-spi (Err Start) c spi h = record { core = refl; message = hushed refl; effect = refl; flag = λ e. refl }
check-spi (Err Check) c spi h = record { core = refl; message = erred spi refl; effect = refl; flag = λ e. refl }

-- where checks are judged
receive_unmoved : (c : Core) (low : Bool) (frame : List ℕ) → checking c.bus.mode ≡ true
    → ((index argument : ℕ) → frame_check frame ≡ good index argument → ⊥) → Unmoved c (receive c low frame)
unfolding receive receive_sd
receive_unmoved c low frame checks h =
    cond_elim (Unmoved c) (in_spi c.bus.mode)
    (λ spi.
    let e : frame_check_by (checking c.bus.mode) frame ≡ frame_check frame = ap (λ (b : Bool). frame_check_by b frame) checks ∙ checked_by.on frame in
    subst (λ (k : FrameCheck). Unmoved c (by_check_spi k c)) (sym e) (check-spi (frame_check frame) c spi h))
    (λ sd. cond_either (Unmoved c) (eqb (number c.bus.state) ina)
    (record { core = refl; message = hushed refl; effect = refl; flag = λ e. refl }) (check-sd (frame_check frame) c low sd h))

-- no row applies
frame-spared : (w : World) (frame out : List ℕ) → Sound w → length frame ≡ FRAME → ROOM ≤ length out → frame_refusal w frame out ≡ none
unfolding refusal applies
frame-spared w frame out s h room =
    simp (eq-eqb (length frame) 6 h, s.core, s.password, eq-eqb (length w.memory) _ s.memory, le-ltb (length out) 17 room)

pub framed-runs : (w : World) (frame : List ℕ) (low : Bool) (out : List ℕ) → Sound w → length frame ≡ FRAME → ROOM ≤ length out
    → framed w frame low out ≡ show w w.card.password out (receive w.card.core low frame)
unfolding framed
framed-runs w frame low out s h room =
    ap (λ o. unless o w out (show w w.card.password out (receive w.card.core low frame))) (frame-spared w frame out s h room)

-- what is said is what the copy gets
ignored_by : (a : World) (out : List ℕ) (r : Result) (t : Turn) → r ≡ show a a.card.password out t → Spoken a.card.core t.message
    → Ignored a out r
unfolding show wire reply_of
ignored_by a out r t e (hushed m) =
    let crc : Bool = a.card.line.com_crc_error in
    silent-copy (ap (λ (x : Result). x.answer) e ∙ ap (λ (x : Message). done (reply_of crc x)) m)
    (ap (λ (x : Result). x.out) e ∙ ap (λ (x : Message). written crc x out) m)
ignored_by a out r t e (erred spi m) =
    let crc : Bool = a.card.line.com_crc_error in
    answered-copy spi (ap (λ (x : Result). x.answer) e ∙ ap (λ (x : Message). done (reply_of crc x)) m)
    (ap (λ (x : Result). x.out) e ∙ ap (λ (x : Message). written crc x out) m)

pub copy_unheard : (a b : World) (frame : List ℕ) (low : Bool) (out : List ℕ) → SameWorld a b → Sound a → length frame ≡ FRAME → ROOM ≤ length out
    → Checks a → ((index argument : ℕ) → frame_check frame ≡ good index argument → ⊥) → Unheard a b frame low out
unfolding step show affected flagged
copy_unheard a b frame low out e s h room checks bad =
    let c = a.card.core in
    let t = receive c low frame in
    let q : Unmoved c t = receive_unmoved c low frame checks bad in
    let r : framed a frame low out ≡ show a a.card.password out t = framed-runs a frame low out s h room in
    let m = stored a.memory c.marks in
    let wp = whole c.settings in
    let same : (framed a frame low out).world.card.core ≡ c =
    ap (λ (x : Result). x.world.card.core) r
    ∙ ap (λ (f : Effect). with_marks t.core (affected wp f t.payload m).marks) q.effect
    ∙ ap (λ (d : Core). with_marks d c.marks) q.core in
    record {
      ignored = ignored_by a out (framed a frame low out) t r q.message;
      world = record {
        core = same ∙ e.core;
        password = ap (λ (x : Result). x.world.card.password) r ∙ e.password;
        memory = ap (λ (x : Result). x.world.memory) r ∙ ap (λ (f : Effect). (affected wp f t.payload m).memory) q.effect ∙ e.memory;
        line = λ spi.
            let here : in_spi c.bus.mode ≡ true = ap (λ (d : Core). in_spi d.bus.mode) (sym same) ∙ spi in
            ap (λ (x : Result). x.world.card.line) r ∙ ap (λ (f : Flag). flagged f a.card.line) (q.flag here) ∙ e.line here;
      };
    }

-- ---- a data block

-- what `NotStored` says of a result
record Kept (w : World) (r : Result) : Type 0 where
  memory : r.world.memory ≡ w.memory
  password : r.world.card.password ≡ w.card.password
  core : with_state r.world.card.core Idle ≡ with_state w.card.core Idle
  answer : r.answer ≡ done (answered ACCEPTED) → ⊥

refused-kept : (w : World) (k : ℕ) → Kept w (refuse w [] k)
refused-kept w k = record { memory = refl; password = refl; core = refl; answer = λ e. let z : ◌≡◌ {A = ℕ} 0 1 = cc in omega arith }

quiet-kept : (w : World) → Kept w (show w w.card.password [] (quiet w.card.core Keep))
unfolding show reply_of affected
quiet-kept w = record { memory = refl; password = refl; core = refl; answer = λ e. let z : ◌≡◌ {A = ℕ} 0 1 = cc in omega arith }

-- held already, or answered 101
wrong-kept : (w : World) (s : List ℕ) (multiple held : Bool) (a : ℕ)
    → Kept w (show w w.card.password [] (write_into multiple a held false w.card.core s))
unfolding write_into show reply_of affected
wrong-kept w s multiple held a =
    cond_either (λ (t : Turn). Kept w (show w w.card.password [] t)) held (quiet-kept w)
    (cond_either (λ (c : Core). Kept w (show w w.card.password [] (said c (token REJECTED)))) multiple rejected-kept rejected-kept)
  where
    rejected-kept : {s : State} → Kept w (show w w.card.password [] (said (with_state w.card.core s) (token REJECTED)))
    rejected-kept = record { memory = refl; password = refl; core = refl; answer = λ e. let z : REJECTED ≡ ACCEPTED = cc in omega arith }

lock-kept : (w : World) (s : List ℕ) (success : Bool) → Kept w (show w w.card.password [] (lock_into false success w.card.core s))
unfolding lock_into show reply_of affected
lock-kept w s success =
    record { memory = refl; password = refl; core = refl; answer = λ e. let z : REJECTED ≡ ACCEPTED = cc in omega arith }

open_kept : (w : World) (s : List ℕ) (success : Bool) (o : Open) → Kept w (show w w.card.password [] (block_into o false success w.card.core s))
unfolding block_into
open_kept w s success Nothing = quiet-kept w
open_kept w s success (Read x) = quiet-kept w
open_kept w s success (Write (Single a held)) = wrong-kept w s false held a
open_kept w s success (Write (Multiple a held)) = wrong-kept w s true held a
open_kept w s success (Write LockUnlock) = lock-kept w s success
open_kept w s success (Busy x) = quiet-kept w

-- a damaged block never changes the password
wrong-password : (o : Open) (success : Bool) (p : Password) (s : List ℕ) → password_into o false success p s ≡ p
unfolding password_into
wrong-password o success p s = go (locking o) (changed (operation s) p s)
  where
    go : (b : Bool) (q : Password) → cond (b && false) q p ≡ p
    go true q = refl
    go false q = refl

-- what came in with a wrong check, or is no payload
payload-kept : (w : World) (s : List ℕ) → Kept w (entered w (payload false s))
unfolding entered
payload-kept w s =
    subst (λ (q : Password). Kept w (show w q [] (block_into (opened w) false (success w s) w.card.core s)))
    (sym (wrong-password (opened w) (success w s) w.card.password s)) (open_kept w s (success w s) (opened w))

stop-kept : (w : World) → Kept w (entered w stop)
unfolding entered show reply_of affected
stop-kept w = record { memory = refl; password = refl; core = refl; answer = λ e. let z : ◌≡◌ {A = ℕ} 0 1 = cc in omega arith }

ignored-kept : (w : World) → Kept w (entered w ignored)
unfolding entered
ignored-kept w = quiet-kept w

-- a check that is judged, and is wrong
judged-wrong : (checks right : Bool) → checks ≡ true → right ≡ false → (not checks || right) ≡ false
judged-wrong true right e h = h
judged-wrong false right e h = absurd (true≢false (sym e))

packet-kept : (w : World) (checks : Bool) (s : List ℕ) → checks ≡ true → packet_right s ≡ false → Kept w (entered w (packet_in checks s))
packet-kept w checks s e h =
    subst (λ (b : Bool). Kept w (entered w (payload b (payload_of s)))) (sym (judged-wrong checks (packet_right s) e h)) (payload-kept w (payload_of s))

-- the packet's check is wrong, and it counts
arrived-kept : (w : World) (s : List ℕ) → Checks w → packet_right (drop (token_size w.card.core.bus.mode) s) ≡ false
    → Kept w (entered w (arrived w s))
unfolding incoming token_in token_size
arrived-kept w s checks wrong =
    let m = w.card.core.bus.mode in
    let P : Incoming → Type 0 = λ i. Kept w (entered w i) in
    cond_elim P (in_spi m)
    (λ spi.
    let bad : packet_right (drop 1 s) ≡ false = rw spi at wrong in
    cond_either P (eqb (length s) 1) (cond_either P (eqb (get_or s 0 0) STOP_TRAN) (stop-kept w) (ignored-kept w))
    (cond_either P (eqb (get_or s 0 0) (start_token (opened w))) (packet-kept w (checking m) (drop 1 s) checks bad) (ignored-kept w)))
    (λ sd.
    let bad : packet_right s ≡ false = rw sd at wrong in
    packet-kept w true s refl bad)

-- a packet that row 2 lets pass is not longer than its check is good for
short : (w : World) (s : List ℕ) → block_refusal w s ≡ none → packet_size w.card.core ≤ PAYLOAD + CHECK
unfolding applies packet_size
short w s e =
    let two = neither (unsound w.card.core) _ (spared 2 (1 ∷ 3 ∷ 5 ∷ []) _ e).0 in
    let size = (facts-sound w.card.core two.0).0.size in
    cond_either (λ (n : ℕ). n + CHECK ≤ PAYLOAD + CHECK) (locking (opened w)) (omega (arith, size.high)) (omega arith)

module _ (w : World) (s : List ℕ) (checks : Checks w)
    (h : packet_size w.card.core ≤ PAYLOAD + CHECK → packet_right (drop (token_size w.card.core.bus.mode) s) ≡ false)
  where
    given-kept : Kept w (given w s)
    unfolding given
    given-kept =
        unless_keeps (Kept w) (block_refusal w s) w [] {x = entered w (arrived w s)} (refused-kept w)
        (λ e. arrived-kept w s checks (h (short w s e)))

    pub block-not_stored : NotStored w (block_in s)
    unfolding step
    block-not_stored =
        let k = given-kept in
        record { memory = k.memory; password = k.password; core = k.core; answer = k.answer }
