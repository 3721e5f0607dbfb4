-- What the rows that do not apply tell of the record and of memory.
use mathlib.Core.Path.{◌≡◌, refl}
use mathlib.Core.Bool.{Bool, true, false, not, ◌&&◌, ◌||◌, false≢true}
use mathlib.Core.List.{List, [], ◌∷◌}
use mathlib.Core.Option.{none}
use Prim.Native.Nat.{ℕ, zero, suc, ◌≤◌}
use borrow.Author.Tests.{leb-true, eqb-true, not-false}
use lib.Dec.{eqb, leb}
use lib.ListN.{get_or}
use Rattle.card.specs.declared.answer.Rows.{Rows}
use Rattle.card.specs.declared.Settings.{Settings}
use Rattle.card.specs.declared.Core.{Core}
use Rattle.card.specs.Settings.{LEAST, MOST, capacity, allowed}
use Rattle.card.specs.Soundness.{unsound, bad_password}
use Rattle.card.specs.Step.{applies, refusal}
use Rattle.card.proofs.Choices.{neither, spared}
use Rattle.card.proofs.Facts.{facts-sound}
use Rattle.card_refuse.specs.Rows.{Sized}

-- the row at each place of the list
pub passed : (ns : List ℕ) (r : Rows) → refusal ns r ≡ none → (i : ℕ) → applies r (get_or ns i 0) ≡ false
unfolding applies
passed [] r e i = refl
passed (n ∷ ns) r e zero = (spared n ns r e).0
passed (n ∷ ns) r e (suc i) = passed ns r (spared n ns r e).1 i

-- row 2 is of the record, and of the password
pub sound_record : (c : Core) (password : ℕ) → (unsound c || bad_password c.locked password) ≡ false → unsound c ≡ false
sound_record c password e = (neither (unsound c) (bad_password c.locked password) e).0

second : (a b c : Bool) → (a && (b && c)) ≡ true → b ≡ true
second true true c e = refl
second true false c e = e
second false b c e = absurd (false≢true e)

pub few-blocks : (s : Settings) → allowed s ≡ true → s.blocks ≤ MOST
unfolding allowed
few-blocks s e = leb-true s.blocks MOST (second (leb LEAST s.blocks) (leb s.blocks MOST) _ e)

pub sized : (c : Core) (memory : ℕ) → unsound c ≡ false → not (eqb memory (capacity c.settings)) ≡ false → Sized c memory
sized c memory sound full = record {
  blocks = few-blocks c.settings (facts-sound c sound).0.fixed.settings;
  whole = eqb-true memory (capacity c.settings) (not-false _ full);
}
