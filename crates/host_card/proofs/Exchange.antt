-- One exchange: a host that sends a frame, and a sound card that answers it.
use mathlib.Core.Path.{◌≡◌, refl, sym, ap, subst, ◌∙◌}
use mathlib.Core.Bool.{Bool, true, false}
use mathlib.Core.List.{List, [], ◌∷◌, ◌++◌}
use Prim.Native.Nat.{ℕ, suc, ◌≤◌}
use lib.Dec.{eqb}
use lib.ListN.{length, take, drop}
use lib.Seq.{take_at}
use Rattle.std.specs.Prelude.{Ok, Err}
use Rattle.codec.specs.Answer.{done, refused}
use Rattle.codec.specs.Layout.{fits}
use Rattle.codec.specs.Format.{image}
use Rattle.codec.proofs.RoundTrip.{length-image}
use Rattle.wire_frame.specs.Command.{command, FrameCheck, good, frame_check, frame_outcome}
use Rattle.wire_frame.specs.declared.command.Fault.TheVariants.{Size, Start, Check}
use Rattle.wire_frame.proofs.Commands.{frame-decoded}
use Rattle.wire_frame.proofs.RoundTrips.{command_trip}
use Rattle.host.specs.declared.Command.{Command}
use Rattle.host.specs.declared.Found.{Found}
use Rattle.host.specs.declared.Host.{Host}
use Rattle.host.specs.Sequence.{row}
use Rattle.host.specs.Host as Host
use Rattle.host.specs.Host.{sent, selected, stopped, not_ready, frame, sends}
use Rattle.card.specs.State.{number, ina, in_spi}
use Rattle.card.specs.Frame.{Message, silence, r1, r6, spi_r1, plain, block, token, finished, Turn, judge}
use Rattle.card.specs.Receive.{show_sd, by_check, receive_sd, receive}
use Rattle.card.specs.Step as Card
use Rattle.card.specs.Step.{World, Result, command_frame, wire, reply_of, show}
use Rattle.card.specs.History.{Sound}
use Rattle.card.proofs.Damaged.{framed-runs}
use Rattle.card.proofs.Sound.{keeps_sound}
use Rattle.host_card.specs.Joined.{Buffers, heard_of, Meeting, meeting, joined}

-- ---- the frame

good-check : (k : FrameCheck) (index argument : ℕ) → frame_outcome k ≡ done (index ∷ argument ∷ []) → k ≡ good index argument
good-check (Ok fields) index argument e =
    let p : fields.index ≡ index = cc in
    let q : fields.argument ≡ argument = cc in
    λ i. good (p i) (q i)
good-check (Err Size) index argument e = cc
good-check (Err Start) index argument e = cc
good-check (Err Check) index argument e = cc

frame-good : (index argument : ℕ) → fits command.slots (index ∷ argument ∷ []) ≡ true
    → frame_check (image command (index ∷ argument ∷ [])) ≡ good index argument
frame-good index argument fit = good-check _ index argument (frame-decoded _ ∙ command_trip.decode-encode (index ∷ argument ∷ []) fit)

-- ---- the card

-- what is heard of a message is all that it sends
heard-wire : (crc : Bool) (m : Message) (out : List ℕ)
    → heard_of (done (reply_of crc m)) (wire crc m ++ drop (length (wire crc m)) out) ≡ wire crc m
unfolding reply_of wire
heard-wire crc silence out = refl
heard-wire crc (r1 index word) out = take_at (wire crc (r1 index word)) _ _ refl
heard-wire crc (r6 rca word) out = take_at (wire crc (r6 rca word)) _ _ refl
heard-wire crc (spi_r1 byte s) out = take_at (wire crc (spi_r1 byte s)) _ _ refl
heard-wire crc (plain s) out = take_at s _ _ refl
heard-wire crc (block payload) out = take_at (wire crc (block payload)) _ _ refl
heard-wire crc (token n) out = refl
heard-wire crc finished out = refl

-- the card's turn at a command, in SD mode, awake: the world behind it, and what is heard
abbrev pub turn_at : World → ℕ → ℕ → Turn
turn_at w index argument = show_sd w.card.core false (judge w.card.core index argument)

pub record Turns (w : World) (index argument : ℕ) (v : World) (heard : List ℕ) : Type 0 where
  pub fit : fits command.slots (index ∷ argument ∷ []) ≡ true
  pub sd : in_spi w.card.core.bus.mode ≡ false
  pub awake : eqb (number w.card.core.bus.state) ina ≡ false
  pub next : (show w w.card.password [] (turn_at w index argument)).world ≡ v
  pub says : wire w.card.line.com_crc_error (turn_at w index argument).message ≡ heard

module _
    (w v : World) (index argument : ℕ) (heard out : List ℕ) (s : Sound w) (room : Card.ROOM ≤ length out)
    (t : Turns w index argument v heard)
  where
    abbrev asked : List ℕ
    asked = image command (index ∷ argument ∷ [])

    runs : Card.step w (command_frame asked false out) ≡ show w w.card.password out (turn_at w index argument)
    unfolding Card.step receive receive_sd by_check
    runs =
        framed-runs w asked false out s (length-image command _) room
        ∙ ap (show w w.card.password out) (rw (t.sd, t.awake, frame-good index argument t.fit))

    behind : (Card.step w (command_frame asked false out)).world ≡ v
    unfolding show
    behind = ap (λ (r : Result). r.world) runs ∙ t.next

    hears : heard_of (Card.step w (command_frame asked false out)).answer (Card.step w (command_frame asked false out)).out ≡ heard
    unfolding show
    hears =
        ap (λ (r : Result). heard_of r.answer r.out) runs
        ∙ heard-wire w.card.line.com_crc_error (turn_at w index argument).message out
        ∙ t.says

-- ---- both

-- what follows a step of the host
abbrev goes_on : ℕ → Buffers → World → Host.Result → Meeting
goes_on n b w r = elim r.answer [
  | done word ↦ elim word [
    | sent k ↦
        let c = Card.step w (command_frame (take k r.out) false (b.card (suc n))) in
        joined n b r.host c.world (heard_of c.answer c.out)
    | selected ↦ meeting r w (suc n)
    | stopped k reason ↦ meeting r w (suc n)
    | not_ready ↦ meeting r w (suc n)
  ]
  | refused k ↦ meeting r w (suc n)
]

module _ (P : Meeting → Type 0) (n : ℕ) (b : Buffers) (h : Host) (w v : World) (reply heard : List ℕ) (f : Found) (k : Command) where
  pub exchange : Sound w → Host.step h reply (b.host (suc n)) ≡ sends h f k (b.host (suc n))
      → Turns w (row k f.rca).index (row k f.rca).argument v heard
      → (Sound v → P (joined n b (sends h f k (b.host (suc n))).host v heard)) → P (joined (suc n) b h w reply)
  unfolding joined sends
  exchange s e t then =
      let r = row k f.rca in
      let whole = take_at (frame r) (drop (length (frame r)) (b.host (suc n))) (length (frame r)) refl in
      let next : (Card.step w (command_frame (frame r) false (b.card (suc n)))).world ≡ v =
      behind w v r.index r.argument heard (b.card (suc n)) s (b.card_room (suc n)) t in
      subst (λ (x : Host.Result). P (goes_on n b w x)) (sym e)
      (rw (whole, next, hears w v r.index r.argument heard (b.card (suc n)) s (b.card_room (suc n)) t)
      (then (subst Sound next (keeps_sound w (command_frame (frame r) false (b.card (suc n))) s))))
