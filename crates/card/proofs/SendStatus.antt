-- SEND_STATUS: what one comes to, and that lists of calls come to the same with it and without it.
use mathlib.Core.Path.{◌≡◌, refl, sym, ap, subst, ◌∙◌}
use mathlib.Core.Bool.{Bool, true, false, not, ◌&&◌, ◌||◌, false≢true}
use mathlib.Core.List.{List, [], ◌∷◌, ◌++◌}
use Prim.Native.Nat.{ℕ, suc, ◌+◌}
use lib.Dec.{eqb}
use lib.ListN.{length, drop, length-replicate}
use Rattle.codec.specs.Answer.{done}
use Rattle.codec.proofs.RoundTrip.{length-image}
use Rattle.wire_response.specs.Response as Wire
use Rattle.card.specs.declared.State.{State}
use Rattle.card.specs.declared.State.TheVariants.{Idle, Ready, Ident, Stby, Tran, Data, Rcv, Prg, Dis, Ina}
use Rattle.wire_frame.proofs.Commands.{checked_by}
use Rattle.card.specs.declared.Kept.{Kept}
use Rattle.card.specs.declared.Core.{Core}
use Rattle.card.specs.declared.Password.{Password}
use Rattle.card.specs.declared.Line.{Line}
use Rattle.card.specs.declared.command.Command.TheVariants.{StopTransmission, SendStatus}
use Rattle.card.specs.declared.done.Flag.TheVariants.{Keep}
use Rattle.card.specs.declared.done.Response.TheVariants.{R1}
use Rattle.card.specs.declared.done.Judged.TheVariants.{Ran}
use Rattle.card.specs.Record.{with_kept, with_app, with_marks}
use Rattle.card.specs.Protect.{whole}
use Rattle.card.specs.State.{number, ina, in_spi, checking, number_in}
use Rattle.card.specs.Status.{no_bits, join, at}
use Rattle.card.specs.Table.{row, moves, fits, find, command_of, own, has, legal, accepts}
use Rattle.card.specs.Execute.{ran, moved, settled, run_at}
use Rattle.card.specs.Effects.{stored, affected}
use Rattle.card.specs.Frame.{Message, silence, r1, r6, spi_r1, plain, block, token, finished, Turn, quiet, judge, message_of, cleared, finish}
use Rattle.card.specs.Spi.{COM_CRC_ERROR, r1_byte, r2_byte, in_idle, behind_r1, unread, finish_spi}
use Rattle.card.specs.Receive.{shown_sd, show_sd, by_check, receive_sd, show_spi, by_check_spi, receive}
use Rattle.card.specs.Data.{take_from, block_into, password_into, over_from}
use Rattle.card.specs.Soundness.{unsound_tests, unsound}
use Rattle.card.specs.Step.{Call, power_up, command_frame, block_in, take_block, busy_over, World, world, Result, over, sent, line, wire, reply_of, after, flagged, show, start, opened, Incoming, payload, stop, ignored, entered, arrived, led_message, handed, refuse, packet_size, lone_byte, power_refusal, frame_refusal, block_refusal, success, take_refusal, over_refusal, powered_up, framed, given, taken, overed, step, next}
use Rattle.card.specs.SendStatus.{SendsStatus, status_bytes, StatusSent, SendStatusShows, Entry, call, send_status, SameButStatus, block_of, AlikeButStatus, AgreeButStatus, SendStatusInserted}
use Rattle.card.proofs.Choices.{unless-either}
use Rattle.card.proofs.Messages.{Stateless, take_bare, led-stateless}
use Rattle.card.proofs.HiddenBits.{wire_same}
use Rattle.card.proofs.Unread.{rekept, statusless, SameTurn, receive_same, take_same, block_same, stop_same, over_same}

-- ---- one call

awake : (s : State) → has (row SendStatus).sd (number s) ≡ true → eqb (number s) ina ≡ false
unfolding row has
awake Idle p = refl
awake Ready p = refl
awake Ident p = refl
awake Stby p = refl
awake Tran p = refl
awake (Data s) p = refl
awake (Rcv s) p = refl
awake Prg p = refl
awake Dis p = refl
awake Ina p = absurd (false≢true p)

-- the bits that are held, and none more
or_same : (b : Bool) → (b || b) ≡ b
or_same true = refl
or_same false = refl

join_same : (k : Kept) → join k k ≡ k
join_same k = λ i. record {
  out_of_range = or_same k.out_of_range i;
  address_error = or_same k.address_error i;
  block_len_error = or_same k.block_len_error i;
  erase_seq_error = or_same k.erase_seq_error i;
  erase_param = or_same k.erase_param i;
  wp_violation = or_same k.wp_violation i;
  lock_unlock_failed = or_same k.lock_unlock_failed i;
  illegal_command = or_same k.illegal_command i;
  wp_erase_skip = or_same k.wp_erase_skip i;
  erase_reset = or_same k.erase_reset i;
}

module _ (w : World) (frame : List ℕ) (low : Bool) (out : List ℕ) (h : SendsStatus w frame out) where
  abbrev c : Core
  c = w.card.core

  found : command_of c.bus 13 h.argument ≡ SendStatus
  unfolding command_of find fits row
  found = rw h.unmarked refl

  -- in either mode it runs
  judges : judge c 13 h.argument ≡ Ran SendStatus (ran c R1)
  unfolding judge settled row accepts run_at
  judges =
      let mine : not (own c.bus h.argument) ≡ false = ap not h.own in
      simp (found, h.permitted, mine)

  received-sd : in_spi c.bus.mode ≡ false → receive c low frame ≡ finish SendStatus (number c.bus.state) (ran c R1)
  unfolding receive receive_sd by_check show_sd shown_sd row legal moves number_in
  received-sd sd =
      let here : has (row SendStatus).sd (number c.bus.state) ≡ true = rw sd at h.permitted in
      simp (sd, awake c.bus.state here, h.check, judges, and-false low)
    where
      and-false : (b : Bool) → (b && false) ≡ false
      and-false true = refl
      and-false false = refl

  received-spi : in_spi c.bus.mode ≡ true → receive c low frame ≡ finish_spi c.kept SendStatus (ran c R1)
  unfolding receive by_check_spi show_spi
  received-spi spi = simp (spi, checked_by.good (checking c.bus.mode) frame 13 h.argument h.check, judges)

  abbrev after13 : World
  after13 = world (record { core = with_kept c no_bits; password = w.card.password; line = line false }) w.memory

  unmarks : world (record { core = with_app (with_kept c no_bits) false; password = w.card.password; line = line false }) w.memory ≡ after13
  unmarks = ap (λ (a : Bool). world (record { core = with_app (with_kept c no_bits) a; password = w.card.password; line = line false }) w.memory) (sym h.unmarked)

  shows-sd : in_spi c.bus.mode ≡ false → StatusSent w out (step w (command_frame frame low out))
  unfolding step framed show reply_of wire message_of cleared flagged affected row status_bytes
  shows-sd sd =
      record {
        answer = rw (h.passed, received-sd sd, sd) refl;
        out = rw (h.passed, received-sd sd, sd) refl;
        world = rw (h.passed, received-sd sd) unmarks;
      }

  shows-spi : in_spi c.bus.mode ≡ true → StatusSent w out (step w (command_frame frame low out))
  unfolding step framed show reply_of wire behind_r1 unread flagged affected row status_bytes
  shows-spi spi =
      record {
        answer = rw (h.passed, received-spi spi, spi) refl;
        out = rw (h.passed, received-spi spi, spi) (ap (λ (k : Kept). (at COM_CRC_ERROR w.card.line.com_crc_error + r1_byte k (in_idle c)) ∷ (r2_byte k c.locked ∷ drop 2 out)) (join_same c.kept));
        world = rw (h.passed, received-spi spi) unmarks;
      }

  shows : StatusSent w out (step w (command_frame frame low out))
  shows = go (in_spi c.bus.mode) refl
    where
      go : (spi : Bool) → in_spi c.bus.mode ≡ spi → StatusSent w out (step w (command_frame frame low out))
      go true e = shows-spi e
      go false e = shows-sd e

pub send_status-shows : SendStatusShows
send_status-shows = shows

-- ---- messages, but for the status

reply-statusless : (m : Message) (p : Bool) → reply_of p m ≡ reply_of false (statusless m)
unfolding reply_of wire
reply-statusless silence p = refl
reply-statusless (r1 index word) p = ap sent (length-image (Wire.r1 index) _ ∙ sym (length-image (Wire.r1 index) _))
reply-statusless (r6 rca word) p = ap sent (length-image Wire.r6 _ ∙ sym (length-image Wire.r6 _))
reply-statusless (spi_r1 byte s) p = ap (λ (n : ℕ). sent (suc n)) (sym (length-replicate {A = ℕ} (length s) 0))
reply-statusless (plain s) p = refl
reply-statusless (block s) p = refl
reply-statusless (token n) p = refl
reply-statusless finished p = refl

stateless : (m : Message) → Stateless m → statusless m ≡ m
stateless silence h = refl
stateless (r1 index word) h = absurd h
stateless (r6 rca word) h = absurd h
stateless (spi_r1 byte s) h = absurd h
stateless (plain s) h = refl
stateless (block s) h = refl
stateless (token n) h = refl
stateless finished h = refl

-- ---- every call, on a world with other status bits

record Matched (c : Call) (x y : Result) : Type 0 where
  pub answer : x.answer ≡ y.answer
  pub block : block_of c x.out ≡ block_of c y.out
  pub world : SameButStatus x.world y.world

module _ (w : World) (b : Kept) (l : Line) where
  abbrev other : World
  other = record { card = record { core = with_kept w.card.core b; password = w.card.password; line = l }; memory = w.memory }

  refuse_same : (c : Call) (out : List ℕ) (k : ℕ) → Matched c (refuse w out k) (refuse other out k)
  refuse_same c out k = record { answer = refl; block = refl; world = record { core = refl; password = refl; memory = refl } }

  show_same : (c : Call) (p : Password) (out : List ℕ) (t u : Turn) → SameTurn t u → block_of c (show w p out t).out ≡ block_of c (show other p out u).out
      → Matched c (show w p out t) (show other p out u)
  unfolding show
  show_same c password out t u s blocks =
      let p = w.card.line.com_crc_error in
      let q = l.com_crc_error in
      let m : after w t ≡ after other u =
      λ i. affected (whole w.card.core.settings) (s.effect i) (s.payload i) (stored w.memory w.card.core.marks) in
      record {
        answer = ap done (reply-statusless t.message p ∙ ap (reply_of false) s.message ∙ sym (reply-statusless u.message q));
        block = blocks;
        world = record { core = λ i. with_marks (s.core i) (m i).marks; password = refl; memory = λ i. (m i).memory };
      }

  take-block : (out : List ℕ) (t u : Turn) → SameTurn t u → Stateless t.message → Stateless u.message → (show w w.card.password out t).out ≡ (show other w.card.password out u).out
  unfolding show
  take-block out t u s f g =
      let p = w.card.line.com_crc_error in
      let q = l.com_crc_error in
      let e : wire p t.message ≡ wire q u.message =
      wire_same t.message f p q ∙ ap (wire q) (sym (stateless t.message f) ∙ s.message ∙ stateless u.message g) in
      λ i. e i ++ drop (length (e i)) out

  entered_same : (arriving : List ℕ) (i : Incoming) → Matched (block_in arriving) (entered w i) (entered other i)
  unfolding entered
  entered_same arriving (payload right s) =
      let c = w.card.core in
      let o = opened w in
      show_same (block_in arriving) (password_into o right (success w s) w.card.password s) [] (block_into o right (success w s) c s)
      (block_into o right (success w s) other.card.core s) (block_same c b o right (success w s) s) refl
  entered_same arriving stop =
      show_same (block_in arriving) w.card.password [] (quiet (moved StopTransmission w.card.core) Keep)
      (quiet (moved StopTransmission other.card.core) Keep) (stop_same w.card.core b) refl
  entered_same arriving ignored =
      show_same (block_in arriving) w.card.password [] (quiet w.card.core Keep) (quiet other.card.core Keep)
      (record { core = refl; flag = refl; message = refl; effect = refl; payload = refl }) refl

  step_same : (c : Call) → Matched c (step w c) (step other c)
  unfolding step powered_up framed given taken overed unsound unsound_tests packet_size lone_byte
  step_same (power_up s p) =
      let r : Result = record { answer = done over; world = world (start s p) w.memory; out = [] } in
      unless-either (Matched (power_up s p)) (power_refusal w s p) w other [] {x = r} {y = r} (refuse_same (power_up s p) [])
      (record { answer = refl; block = refl; world = record { core = refl; password = refl; memory = refl } })
  step_same (command_frame frame low out) =
      let t = receive w.card.core low frame in
      let u = receive other.card.core low frame in
      unless-either (Matched (command_frame frame low out)) (frame_refusal w frame out) w other out {x = show w w.card.password out t} {y = show other w.card.password out u}
      (refuse_same (command_frame frame low out) out) (show_same (command_frame frame low out) w.card.password out t u (receive_same w.card.core b low frame) refl)
  step_same (block_in s) =
      unless-either (Matched (block_in s)) (block_refusal w s) w other [] {x = entered w (arrived w s)} {y = entered other (arrived w s)}
      (refuse_same (block_in s) []) (entered_same s (arrived w s))
  step_same (take_block out) =
      let o = opened w in
      let t = take_from o w.card.core w.memory in
      let u = take_from o other.card.core w.memory in
      let spi = in_spi w.card.core.bus.mode in
      let s : SameTurn t u = take_same w.card.core b o w.memory in
      let f : Stateless t.message = take_bare o w.card.core w.memory in
      let g : Stateless u.message = take_bare o other.card.core w.memory in
      let same : t.message ≡ u.message = sym (stateless t.message f) ∙ s.message ∙ stateless u.message g in
      let l : SameTurn (handed w) (handed other) =
      record { core = s.core; flag = s.flag; message = ap (λ (m : Message). statusless (led_message spi m)) same; effect = s.effect; payload = s.payload } in
      unless-either (Matched (take_block out)) (take_refusal w out) w other out {x = show w w.card.password out (handed w)} {y = show other w.card.password out (handed other)}
      (refuse_same (take_block out) out)
      (show_same (take_block out) w.card.password out (handed w) (handed other) l
      (take-block out (handed w) (handed other) l (led-stateless spi t.message f) (led-stateless spi u.message g)))
  step_same busy_over =
      let t = over_from (opened w) w.card.core in
      let u = over_from (opened w) other.card.core in
      unless-either (Matched busy_over) (over_refusal w) w other [] {x = show w w.card.password [] t} {y = show other w.card.password [] u}
      (refuse_same busy_over []) (show_same busy_over w.card.password [] t u (over_same w.card.core b (opened w)) refl)

-- ---- lists of calls

alike : (a b : World) → SameButStatus a b → (c : Call) → AlikeButStatus a b c
alike a b s c =
    let m : Matched c (step a c) (step b c) =
    subst (λ (w : World). Matched c (step a c) (step w c))
    (λ i. record { card = record { core = sym (rekept a.card.core b.card.core s.core) i; password = s.password i; line = b.card.line }; memory = s.memory i })
    (step_same a b.card.core.kept b.card.line c) in
    record { answer = m.answer; block = m.block; world = m.world }

agree : (h : List Entry) (a b : World) → SameButStatus a b → AgreeButStatus a b h
agree [] a b s = tt
agree (call c ∷ h) a b s =
    let x : AlikeButStatus a b c = alike a b s c in
    (x, agree h (next a c) (next b c) x.world)
agree (send_status frame low out ∷ h) a b s =
    λ q.
    let x = send_status-shows a frame low out q in
    let y : SameButStatus (next a (command_frame frame low out)) b =
    record {
      core = ap (λ (v : World). with_kept v.card.core no_bits) x.world ∙ s.core;
      password = ap (λ (v : World). v.card.password) x.world ∙ s.password;
      memory = ap (λ (v : World). v.memory) x.world ∙ s.memory;
    } in
    (y, agree h (next a (command_frame frame low out)) b y)

pub send_status_inserted : SendStatusInserted
send_status_inserted w h = agree h w w (record { core = refl; password = refl; memory = refl })
