-- The call of a frame: what it does stays inside the card, and what is seen of it.
use mathlib.Core.Path.{◌≡◌, refl, sym, ap, subst, ◌∙◌}
use mathlib.Core.Bool.{Bool, true, cond}
use mathlib.Core.List.{List, [], ◌∷◌, ◌++◌}
use mathlib.Core.Option.{none}
use Prim.Native.Nat.{ℕ, ◌+◌, ◌*◌}
use native.Mathlib.Omega.{arith}
use borrow.Author.Tests.{le-ltb, le-leb, ltb-false, eqb-true, not-false}
use lib.ListN.{length, drop}
use Rattle.codec.specs.Answer.{done}
use Rattle.card.specs.declared.answer.Answer.{Answer}
use Rattle.card.specs.declared.Settings.{Settings}
use Rattle.card.specs.declared.Card.{Card}
use Rattle.card.specs.declared.done.Effect.{Effect}
use Rattle.card.specs.declared.done.Effect.TheVariants.{Nothing, Store, Sweep, Protect, ForceErase}
use Rattle.card.specs.Settings.{BLOCK, capacity}
use Rattle.card.specs.Record.{with_marks}
use Rattle.card.specs.Protect.{whole}
use Rattle.card.specs.Effects.{Stored, stored, affected}
use Rattle.card.specs.Frame.{Turn}
use Rattle.card.specs.Receive.{receive}
use Rattle.card.specs.Step.{world, answer, reply_of, wire, flagged, show, applies, ROOM, frame_refusal}
use Rattle.card.proofs.Facts.{facts-sound}
use Rattle.card.proofs.Extent.{Inside}
use Rattle.card.proofs.Frames.{receive-lasting}
use Rattle.card_call.specs.Seen.{returned, seen}
use Rattle.card_respond.specs.Sent.{message, Responded, responded, on_line}
use Rattle.card_effect.specs.Apply.{reaches}
use Rattle.card_turn.specs.declared.Turned.{Turned}
use Rattle.card_turn.specs.Turned.{turned}
use Rattle.card_refuse.proofs.Passed.{passed, sound_record}
use Rattle.card_command.specs.Shows.{Shows}

inside_reaches : (s : Settings) (e : Effect) (memory : List ℕ) → Inside s e [] → length memory ≡ capacity s → reaches e 0 (length memory) ≡ true
inside_reaches s Nothing memory h l = refl
inside_reaches s (Store address) memory h l = le-leb (address + 0) (length memory) (omega arith)
inside_reaches s (Sweep first count) memory h l = le-leb ((first + count) * BLOCK) (length memory) (omega arith)
inside_reaches s (Protect group value) memory h l = refl
inside_reaches s ForceErase memory h l = refl

-- where no row applies, what the frame comes to can be shown
module _ (card : Card) (low : Bool) (frame memory out : List ℕ) (spared : frame_refusal (world card memory) frame out ≡ none) where
  pub shows : (t : Turned) → turned t ≡ receive card.core low frame → Shows card.core.settings t.effect memory out
  unfolding applies
  shows t e =
      let row = passed (1 ∷ 2 ∷ 3 ∷ 4 ∷ []) _ spared in
      let whole = eqb-true (length memory) (capacity card.core.settings) (not-false _ (row 2)) in
      let inside : Inside card.core.settings t.effect [] =
      subst (λ (x : Turn). Inside card.core.settings x.effect x.payload) (sym e)
      (receive-lasting card.core (facts-sound card.core (sound_record card.core card.password.length (row 1))) low frame).inside in
      record { room = ltb-false (length out) ROOM (row 3); inside = inside_reaches card.core.settings t.effect memory inside whole }

-- a call that was not refused, by its parts
pub shown : (card : Card) (memory out : List ℕ) (t : Turned) (a : Answer) (kept : Card) (all : Bool) (after marks buffer : List ℕ)
    → Shows card.core.settings t.effect memory out
    → all ≡ whole card.core.settings
    → stored after marks
    ≡ cond (reaches t.effect 0 (length memory)) (affected all t.effect [] (stored memory card.core.marks)) (stored memory card.core.marks)
    → responded (answer a) buffer ≡ on_line card.line.com_crc_error (message t.core t.message) out
    → kept ≡ record { core = with_marks t.core marks; password = card.password; line = flagged t.flag card.line }
    → returned (record { answer = a; card = kept }) after buffer ≡ seen (show (world card memory) card.password out (turned t))
unfolding show on_line
shown card memory out t a kept all after marks buffer s w m r k =
    let crc = card.line.com_crc_error in
    let n = message t.core t.message in
    let e : stored after marks ≡ affected (whole card.core.settings) t.effect [] (stored memory card.core.marks) =
    m ∙ rw s.inside (ap (λ (b : Bool). affected b t.effect [] (stored memory card.core.marks)) w) in
    let g : responded (answer a) buffer ≡ responded (done (reply_of crc n)) (wire crc n ++ drop (length (wire crc n)) out) =
    r ∙ rw (le-ltb (length out) ROOM s.room) in
    let x : answer a ≡ done (reply_of crc n) = ap (λ (x : Responded). x.answer) g in
    let y : buffer ≡ wire crc n ++ drop (length (wire crc n)) out = ap (λ (x : Responded). x.out) g in
    let p : after ≡ _ = ap (λ (x : Stored). x.memory) e in
    let q : marks ≡ _ = ap (λ (x : Stored). x.marks) e in
    λ i. record {
      answer = x i;
      card = (k ∙ ap {B = Card} (λ (n : List ℕ). record { core = with_marks t.core n; password = card.password; line = flagged t.flag card.line }) q) i;
      memory = p i;
      out = y i;
    }
