-- What a caller sees of a turn that sends no bytes: silence, a data answer, the end of busy.
use mathlib.Core.Path.{◌≡◌, sym, ap, ◌∙◌}
use mathlib.Core.List.{List}
use Prim.Native.Nat.{ℕ}
use Rattle.card.specs.declared.answer.Answer.{Answer}
use Rattle.card.specs.declared.answer.Answer.TheVariants.{Silence, Accepted, Rejected, Over}
use Rattle.card.specs.declared.Open.{Open}
use Rattle.card.specs.declared.Core.{Core}
use Rattle.card.specs.declared.Password.{Password}
use Rattle.card.specs.declared.Card.{Card}
use Rattle.card.specs.declared.done.Effect.{Effect}
use Rattle.card.specs.declared.done.Effect.TheVariants.{Store}
use Rattle.card.specs.declared.done.Flag.TheVariants.{Keep}
use Rattle.card.specs.Record.{with_marks}
use Rattle.card.specs.Protect.{whole}
use Rattle.card.specs.Effects.{Stored, stored, over, affected}
use Rattle.card.specs.Frame.{Turn, token, finished, quiet, said}
use Rattle.card.specs.Data.{ACCEPTED, REJECTED}
use Rattle.card.specs.Step.{wire, reply_of, flagged, show}
use Rattle.card_call.specs.declared.Stepped.{Stepped}
use Rattle.card_call.specs.Seen.{Seen, returned, turned, turned_with}

-- what `answered_with` returns, and `answered`
abbrev pub after_with : Card → Password → Core → Answer → Stepped
after_with card p core a = record { answer = a; card = record { core = core; password = p; line = card.line } }

abbrev pub after : Card → Core → Answer → Stepped
after card core a = after_with card card.password core a

-- a core that keeps the marks of the card is itself with those marks
pub same-marks : (card : Card) (e : Core) → e.marks ≡ card.core.marks → e ≡ with_marks e card.core.marks
same-marks card e h = ap (with_marks e) h

module _ (r : Stepped) (card : Card) {p : Password} (d e : Core) (same-core : d ≡ e) (marks : e.marks ≡ card.core.marks) where
  seen_as : (a : Answer) (memory out : List ℕ) → r ≡ after_with card p d a
      → returned r memory out ≡ returned (after_with card p (with_marks e card.core.marks) a) memory out
  seen_as a memory out h =
      ap (λ (x : Stepped). returned x memory out) h
      ∙ ap (λ (x : Core). returned (after_with card p x a) memory out) (same-core ∙ same-marks card e marks)

  module _ (memory out : List ℕ) where
    pub silent : r ≡ after_with card p d Silence → returned r memory out ≡ turned_with card p memory out (quiet e Keep)
    unfolding show wire reply_of flagged affected
    silent h = seen_as Silence memory out h

    pub rejected : r ≡ after_with card p d Rejected → returned r memory out ≡ turned_with card p memory out (said e (token REJECTED))
    unfolding show wire reply_of flagged affected
    rejected h = seen_as Rejected memory out h

    pub ended : r ≡ after_with card p d Over → returned r memory out ≡ turned_with card p memory out (said e finished)
    unfolding show wire reply_of flagged affected
    ended h = seen_as Over memory out h

    -- memory is what the store left
    pub accepted : (a : ℕ) (s before : List ℕ) → memory ≡ over before a s → r ≡ after_with card p d Accepted
        → returned r memory out
        ≡ turned_with card p before out (record { core = e; flag = Keep; message = token ACCEPTED; effect = Store a; payload = s })
    unfolding show wire reply_of flagged affected
    accepted a s before m h =
        seen_as Accepted memory out h ∙ ap (λ (x : List ℕ). returned (after_with card p (with_marks e card.core.marks) Accepted) x out) m

-- a block that is accepted, with memory and marks as its effect left them
pub operated : (r : Stepped) (card : Card) {p : Password} (d e : Core) (f : Effect) (s memory before marks out : List ℕ) → d ≡ with_marks e marks
    → stored memory marks ≡ affected (whole card.core.settings) f s (stored before card.core.marks) → r ≡ after_with card p d Accepted
    → returned r memory out ≡ turned_with card p before out (record { core = e; flag = Keep; message = token ACCEPTED; effect = f; payload = s })
unfolding show wire reply_of flagged
operated r card {p} d e f s memory before marks out same m h =
    ap (λ (x : Stepped). returned x memory out) h
    ∙ ap (λ (x : Core). returned (after_with card p x Accepted) memory out) same
    ∙ ap (λ (x : Stored). returned (after_with card p (with_marks e x.marks) Accepted) x.memory out) m

-- a turn that goes by what is open: as the code found it, p, the model's o, and the case q
pub by_open : (card : Card) (memory out : List ℕ) (f : Open → Turn) {v : Seen} {p o q : Open} → p ≡ o → p ≡ q
    → v ≡ turned card memory out (f q) → v ≡ turned card memory out (f o)
by_open card memory out f h k e = e ∙ ap (λ (x : Open). turned card memory out (f x)) (sym k ∙ h)
