-- The host's steps: from a reply that is expected to the next command.
use mathlib.Core.Path.{◌≡◌, ◌∙◌}
use mathlib.Core.Bool.{false, ◌&&◌}
use mathlib.Core.List.{List}
use Prim.Native.Nat.{ℕ, ◌≤◌}
use borrow.Author.Tests.{le-ltb}
use lib.Dec.{leb}
use lib.ListN.{length}
use Rattle.std.specs.Prelude.{Some, None}
use Rattle.host.specs.declared.Command.{Command}
use Rattle.host.specs.declared.Command.TheVariants.{GoIdleState, AppCmd}
use Rattle.host.specs.declared.Phase.TheVariants.{Start, Sent}
use Rattle.host.specs.declared.Found.{Found}
use Rattle.host.specs.declared.Host.{Host}
use Rattle.host.specs.Sequence.{row}
use Rattle.host.specs.Reply.{Judged, Expected, Busy, judge, learn}
use Rattle.host.specs.Host.{ROOM, unsound, selected, end, sends, of_poll, goes, follows, answered, hears, turns, step}

module _ (h : Host) (reply out : List ℕ) (sound : unsound h.limit h.polls ≡ false) (room : ROOM ≤ length out) where
  runs : step h reply out ≡ turns h.phase h reply out
  unfolding step
  runs = simp (sound, le-ltb (length out) 17 room)

  pub sends-first : h.phase ≡ Start → step h reply out ≡ sends h h.found GoIdleState out
  unfolding turns
  sends-first p = runs ∙ rw p

  -- a reply to a command that teaches the host this
  module _ (k : Command) (f : Found) (due : h.phase ≡ Sent k) (learns : learn (row k h.found.rca).answer h.found reply ≡ f) where
    abbrev shows : Judged → Type 0
    shows j = judge (row k h.found.rca).answer (row k h.found.rca).index reply ≡ j

    pub sends-next : shows Expected → (next : Command) → (row k h.found.rca).next ≡ Some next
        → (of_poll (row next f.rca).index && leb h.limit h.polls) ≡ false → step h reply out ≡ sends h f next out
    unfolding turns hears answered follows goes
    sends-next j next e more = runs ∙ rw (due, j, learns, e, more)

    pub polls-again : shows Busy → leb h.limit h.polls ≡ false → step h reply out ≡ sends h f AppCmd out
    unfolding turns hears answered goes row
    polls-again j more = runs ∙ rw (due, j, learns, more)

    pub selects : shows Expected → (row k h.found.rca).next ≡ None → step h reply out ≡ end h f selected out
    unfolding turns hears answered follows
    selects j e = runs ∙ rw (due, j, learns, e)
