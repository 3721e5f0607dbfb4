-- Every call keeps a world sound, and the world of a power-up is sound.
use mathlib.Core.Path.{◌≡◌, refl, sym, ap, subst, ◌∙◌}
use mathlib.Core.Bool.{Bool, true, false, not, and-eq-true_iff}
use mathlib.Core.List.{List, [], ◌∷◌}
use Rattle.codec.specs.Answer.{done}
use Prim.Native.Nat.{ℕ, ◌+◌, ◌-◌, ◌*◌, ◌/◌, ◌≤◌}
use native.Mathlib.Omega.{arith}
use borrow.Author.Tests.{eqb-true, leb-true, not-false}
use lib.Dec.{eqb, leb}
use lib.ListN.{length, length-take}
use Rattle.reg_csd.specs.Csd.{csd_values}
use Rattle.card.specs.declared.Settings.{Settings}
use Rattle.card.specs.declared.Card.{Card}
use Rattle.card.specs.declared.Password.{Password}
use Rattle.card.specs.Settings.{BLOCK, GROUP, PASSWORD, capacity, groups, allowed, csd_of}
use Rattle.card.specs.Record.{with_marks}
use Rattle.card.specs.Protect.{whole}
use Rattle.card.specs.Effects.{stored}
use Rattle.wire_packet.specs.Packet.{CHECK}
use Rattle.card.specs.declared.command.Command.TheVariants.{StopTransmission}
use Rattle.card.specs.declared.done.Flag.TheVariants.{Keep}
use Rattle.card.specs.State.{in_spi}
use Rattle.card.specs.Execute.{moved}
use Rattle.card.specs.Frame.{Turn, quiet}
use Rattle.card.specs.Receive.{receive}
use Rattle.card.specs.Lock.{content}
use Rattle.card.specs.Data.{block_into, password_into, over_from}
use Rattle.card.specs.Soundness.{bad_app, marked_from, bad_password}
use Rattle.card.specs.Step.{power_up, command_frame, block_in, take_block, busy_over, World, world, Result, over, after, show, applies, fresh, start, packet_size, opened, payload, stop, ignored, success, entered, arrived, handed, permitted, power_refusal, frame_refusal, block_refusal, take_refusal, over_refusal, powered_up, framed, given, taken, overed, step}
use Rattle.card.specs.History.{Sound, KeepsSound, StartsSound}
use Rattle.card.proofs.Choices.{unless_keeps, spared}
use Rattle.card.proofs.Facts.{Marked, Facts, equal-refl, facts-sound, sound-facts}
use Rattle.card.proofs.Changes.{remark, reset-sturdy}
use Rattle.card.proofs.Extent.{length-affected, marked-affected}
use Rattle.card.proofs.Incoming.{incoming_elim}
use Rattle.card.proofs.Frames.{Lasting, lasting, receive-lasting}
use Rattle.card.proofs.Marks.{none-marked}
use Rattle.card.proofs.Locked.{receive-held, take-held, over-held}
use Rattle.card.proofs.Passwords.{Fit, fits_in, block-fits}
use Rattle.card.proofs.Transfers.{take-lasting, block-lasting, stop-lasting, over-lasting}

-- ---- a power-up

fresh-facts : (s : Settings) (locked : Bool) → allowed s ≡ true → Facts (fresh s locked)
unfolding fresh bad_app
fresh-facts s locked e =
    (reset-sturdy (fresh s locked) (record { settings = e; csd = equal-refl (csd_values (csd_of s)) }) (none-marked 256 (groups s)), refl)

-- locked exactly if there is a password
kept-fit : (n : ℕ) → n ≤ PASSWORD → Fit (leb 1 n) n
kept-fit n h = record { high = h; set = λ e. leb-true 1 n e }

start-sound : (s : Settings) (p : Password) (memory : List ℕ) → permitted s p ≡ true → length memory ≡ capacity s
    → Sound (world (start s p) memory)
unfolding start fresh
start-sound s p memory e l =
    let t = (and-eq-true_iff (allowed s) (leb p.length PASSWORD)).0 e in
    let n = length (content p) in
    let high : n ≤ PASSWORD = let h = leb-true p.length PASSWORD t.1 in simp length-take (omega (arith, h)) in
    record {
      core = sound-facts (fresh s (leb 1 n)) (fresh-facts s (leb 1 n) t.0);
      password = fits_in (leb 1 n) n (kept-fit n high);
      memory = l;
    }

equal-spared : (m n : ℕ) → not (eqb m n) ≡ false → m ≡ n
equal-spared m n e = eqb-true m n (not-false (eqb m n) e)

abbrev Good : Result → Type 0
Good r = Sound r.world

module _ (w : World) (s : Sound w) where
  core-facts : Facts w.card.core
  core-facts = facts-sound w.card.core s.core

  -- ---- a call that runs

  show-sound : (p : Password) (out : List ℕ) (t : Turn) → Lasting w.card.core t → bad_password t.core.locked p.length ≡ false
      → Sound (show w p out t).world
  unfolding show
  show-sound p out t l password =
      let settings = w.card.core.settings in
      let m = stored w.memory w.card.core.marks in
      let wp = whole settings in
      let kept : Marked t.core.settings (after w t).marks =
      subst (λ (n : ℕ). marked_from (after w t).marks ((n + (GROUP - 1)) / GROUP) ≡ false) (sym l.blocks)
      (marked-affected settings wp t.payload m t.effect l.inside core-facts.0.marks) in
      record {
        core = sound-facts (with_marks t.core (after w t).marks) (remark t.core l.facts.0 (after w t).marks kept, l.facts.1);
        password = password;
        memory = length-affected settings wp t.payload m t.effect l.inside s.memory ∙ ap (λ (n : ℕ). n * BLOCK) (sym l.blocks);
      }

  -- the lock is held, and the password with it
  held-sound : {locked : Bool} → locked ≡ w.card.core.locked → bad_password locked w.card.password.length ≡ false
  held-sound e = ap (λ (l : Bool). bad_password l w.card.password.length) e ∙ s.password

  -- ---- the five calls

  powered_up-sound : (settings : Settings) (p : Password) → Sound (powered_up w settings p).world
  unfolding powered_up applies
  powered_up-sound settings p =
      unless_keeps Good (power_refusal w settings p) w [] {x = record { answer = done over; world = world (start settings p) w.memory; out = [] }} (λ k. s)
      (λ e.
      let three = spared 3 (6 ∷ []) _ e in
      let six = spared 6 [] _ three.1 in
      start-sound settings p w.memory (not-false (permitted settings p) six.0) (equal-spared (length w.memory) (capacity settings) three.0))

  framed-sound : (frame : List ℕ) (low : Bool) (out : List ℕ) → Sound (framed w frame low out).world
  unfolding framed
  framed-sound frame low out =
      let t = receive w.card.core low frame in
      unless_keeps Good (frame_refusal w frame out) w out {x = show w w.card.password out t} (λ k. s)
      (λ e. show-sound w.card.password out t (receive-lasting w.card.core core-facts low frame) (held-sound (receive-held w.card.core low frame)))

  entered-payload : (right : Bool) (p : List ℕ) → length p + CHECK ≡ packet_size w.card.core → Sound (entered w (payload right p)).world
  unfolding entered
  entered-payload right p size =
      let c = w.card.core in
      show-sound (password_into (opened w) right (success w p) w.card.password p) [] (block_into (opened w) right (success w p) c p)
      (block-lasting c core-facts right (success w p) p size) (block-fits c w.card.password right p (opened w) s.password)

  entered-stop : in_spi w.card.core.bus.mode ≡ true → Sound (entered w stop).world
  unfolding entered
  entered-stop spi =
      show-sound w.card.password [] (quiet (moved StopTransmission w.card.core) Keep) (stop-lasting w.card.core core-facts spi) s.password

  entered-ignored : Sound (entered w ignored).world
  unfolding entered
  entered-ignored = show-sound w.card.password [] (quiet w.card.core Keep) (lasting core-facts refl) s.password

  given-sound : (block : List ℕ) → Sound (given w block).world
  unfolding given applies
  given-sound block =
      unless_keeps Good (block_refusal w block) w [] {x = entered w (arrived w block)} (λ k. s)
      (λ e.
      let one = spared 1 (3 ∷ 5 ∷ []) _ (spared 2 (1 ∷ 3 ∷ 5 ∷ []) _ e).1 in
      incoming_elim w.card.core block (λ i. Sound (entered w i).world) one.0 entered-payload entered-stop entered-ignored)

  taken-sound : (out : List ℕ) → Sound (taken w out).world
  unfolding taken
  taken-sound out =
      let t = handed w in
      let l = take-lasting w.card.core core-facts w.memory in
      unless_keeps Good (take_refusal w out) w out {x = show w w.card.password out t} (λ k. s)
      (λ e. show-sound w.card.password out t (record { facts = l.facts; blocks = l.blocks; inside = l.inside }) (held-sound (take-held w.card.core (opened w) w.memory)))

  overed-sound : Sound (overed w).world
  unfolding overed
  overed-sound =
      let t = over_from (opened w) w.card.core in
      unless_keeps Good (over_refusal w) w [] {x = show w w.card.password [] t} (λ k. s)
      (λ e. show-sound w.card.password [] t (over-lasting w.card.core core-facts) (held-sound (over-held w.card.core (opened w))))

-- ---- the claims

pub keeps_sound : KeepsSound
unfolding step
keeps_sound w (power_up settings p) s = powered_up-sound w s settings p
keeps_sound w (command_frame frame low out) s = framed-sound w s frame low out
keeps_sound w (block_in packet) s = given-sound w s packet
keeps_sound w (take_block out) s = taken-sound w s out
keeps_sound w busy_over s = overed-sound w s

pub starts-sound : StartsSound
starts-sound w h =
    subst (λ (c : Card). Sound (world c w.memory)) (sym h.powered) (start-sound h.settings h.password w.memory h.allowed h.memory)
