-- What a step can come to: it is refused, it ends, or it sends a frame.
use mathlib.Core.Path.{◌≡◌, refl, sym, ap, subst, ◌∙◌}
use mathlib.Core.Bool.{Bool, true, false, cond, ◌&&◌, and-eq-true_iff}
use mathlib.Core.Logic.{◌⊎◌, inl, inr}
use mathlib.Core.List.{List}
use Prim.Native.Nat.{ℕ, ◌+◌}
use lib.Dec.{leb, ltb}
use lib.ListN.{length, get_or}
use Rattle.crc.specs.Bits.{bits, number, bytes}
use Rattle.codec.specs.Answer.{done, BUFFER}
use Rattle.codec.specs.Layout.{write}
use Rattle.codec.specs.Format.{image, ended}
use Rattle.host.specs.declared.Command.{Command}
use Rattle.host.specs.declared.Command.TheVariants.{GoIdleState, SendIfCond, AppCmd, SdSendOpCond, AllSendCid, SendRelativeAddr, SendCsd, SelectCard}
use Rattle.host.specs.declared.Phase.{Phase}
use Rattle.host.specs.declared.Phase.TheVariants.{Start, Sent, Ended}
use Rattle.host.specs.declared.Found.{Found}
use Rattle.host.specs.declared.Host.{Host}
use Rattle.std.specs.Prelude.{Option, Some, None}
use Rattle.host.specs.declared.Row.{Row}
use Rattle.host.specs.Sequence.{row}
use Rattle.host.specs.Reply.{Judged, Expected, Busy, Unexpected, judge, learn}
use Rattle.host.specs.Host.{Word, sent, selected, stopped, not_ready, Result, UNSOUND, CLOSED, ROOM, unsound, refuse, end, frame, sends, of_poll, goes, follows, answered, hears, turns, step}
use Rattle.host.specs.History.{is_end}

pub cond_elim : {A : Type 0} (P : A → Type 0) (b : Bool) {x y : A} → (b ≡ true → P x) → (b ≡ false → P y) → P (cond b x y)
cond_elim P true yes-case no-case = yes-case refl
cond_elim P false yes-case no-case = no-case refl

-- the first byte of a frame: start bit 0, transmission bit 1, index
pub first_byte : (k : Command) (rca : ℕ) → get_or (frame (row k rca)) 0 0 ≡ 64 + (row k rca).index
unfolding row image write bytes bits number ended
first_byte GoIdleState rca = refl
first_byte SendIfCond rca = refl
first_byte AppCmd rca = refl
first_byte SdSendOpCond rca = refl
first_byte AllSendCid rca = refl
first_byte SendRelativeAddr rca = refl
first_byte SendCsd rca = refl
first_byte SelectCard rca = refl

-- only the argument of a row goes by the RCA
row_next : (k : Command) (rca : ℕ) → (row k rca).next ≡ (row k 0).next
unfolding row
row_next GoIdleState rca = refl
row_next SendIfCond rca = refl
row_next AppCmd rca = refl
row_next SdSendOpCond rca = refl
row_next AllSendCid rca = refl
row_next SendRelativeAddr rca = refl
row_next SendCsd rca = refl
row_next SelectCard rca = refl

pub row-index : (k : Command) (rca : ℕ) → (row k rca).index ≡ (row k 0).index
unfolding row
row-index GoIdleState rca = refl
row-index SendIfCond rca = refl
row-index AppCmd rca = refl
row-index SdSendOpCond rca = refl
row-index AllSendCid rca = refl
row-index SendRelativeAddr rca = refl
row-index SendCsd rca = refl
row-index SelectCard rca = refl

-- why a command is sent: it is the first, it follows the one that was answered, or the card is busy
abbrev pub Due : Phase → Command → Type 0
Due Start k = GoIdleState ≡ k
Due (Sent j) k = ((row j 0).next ≡ Some k) ⊎ (AppCmd ≡ k)
Due Ended k = ⊥

-- a command of a poll follows
pub record Polls (j : Command) : Type 0 where
  pub command : Command
  pub follows : (row j 0).next ≡ Some command
  pub polls : of_poll (row command 0).index ≡ true

-- why the host gives up: a poll is due, and none is left
abbrev pub Spent : Host → Phase → List ℕ → Type 0
Spent h Start reply = ⊥
Spent h (Sent j) reply =
    (leb h.limit h.polls ≡ true) × (Polls j ⊎ (judge (row j h.found.rca).answer (row j h.found.rca).index reply ≡ Busy))
Spent h Ended reply = ⊥

abbrev pub Because : Host → Phase → List ℕ → Word → Type 0
Because h p reply (sent n) = Unit {0}
Because h p reply selected = Unit {0}
Because h p reply (stopped k r) = Unit {0}
Because h p reply not_ready = Spent h p reply

module _
    (h : Host) (reply out : List ℕ) (P : Result → Type 0)
    (no : (k : ℕ) → P (refuse h out k))
    (ends : unsound h.limit h.polls ≡ false → (f : Found) (a : Word) → is_end (done a) ≡ true → Because h h.phase reply a
    → P (end h f a out))
    (on : unsound h.limit h.polls ≡ false → (f : Found) (k : Command) → Due h.phase k
    → (of_poll (row k f.rca).index && leb h.limit h.polls) ≡ false → P (sends h f k out))
  where
    goes-either : unsound h.limit h.polls ≡ false → (f : Found) (k : Command) → Due h.phase k
        → (of_poll (row k f.rca).index ≡ true → leb h.limit h.polls ≡ true → Spent h h.phase reply) → P (goes h f k out)
    unfolding goes
    goes-either s f k d why =
        cond_elim P (of_poll (row k f.rca).index && leb h.limit h.polls)
        (λ e. let p = (and-eq-true_iff (of_poll (row k f.rca).index) (leb h.limit h.polls)).0 e in ends s f not_ready refl (why p.0 p.1))
        (on s f k d)

    module _ (j : Command) (at : h.phase ≡ Sent j) (s : unsound h.limit h.polls ≡ false) where
      abbrev r : Row
      r = row j h.found.rca

      here : (A : Phase → Type 0) → A (Sent j) → A h.phase
      here A = subst A (sym at)

      follows-either : (f : Found) (n : Option Command) → (row j 0).next ≡ n → P (follows h f n out)
      unfolding follows
      follows-either f (Some k) e =
          goes-either s f k (here (λ p. Due p k) (inl e))
          (λ q l. here (λ p. Spent h p reply) (l, inl (record { command = k; follows = e; polls = ap of_poll (sym (row-index k f.rca)) ∙ q })))
      follows-either f None e = ends s f selected refl tt

      answered-either : (f : Found) (x : Judged) → judge r.answer r.index reply ≡ x → P (answered h j r.next x f out)
      unfolding answered
      answered-either f Expected e = follows-either f r.next (sym (row_next j h.found.rca))
      answered-either f Busy e = goes-either s f AppCmd (here (λ p. Due p AppCmd) (inr refl)) (λ q l. here (λ p. Spent h p reply) (l, inr e))
      answered-either f (Unexpected reason) e = ends s f (stopped j reason) refl tt

    turns-either : unsound h.limit h.polls ≡ false → (p : Phase) → h.phase ≡ p → P (turns p h reply out)
    unfolding turns hears row
    turns-either s Start e = on s h.found GoIdleState (subst (λ (p : Phase). Due p GoIdleState) (sym e) refl) refl
    turns-either s (Sent j) e =
        let r = row j h.found.rca in
        answered-either j e s (learn r.answer h.found reply) (judge r.answer r.index reply) refl
    turns-either s Ended e = no CLOSED

    pub step-either : P (step h reply out)
    unfolding step
    step-either =
        cond_elim P (unsound h.limit h.polls) (λ e. no UNSOUND)
        (λ s. cond_elim P (ltb (length out) ROOM) (λ e. no BUFFER) (λ e. turns-either s h.phase refl))
