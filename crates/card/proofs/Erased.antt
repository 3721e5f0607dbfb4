-- Erase: 32 and 33 keep the erase marks below capacity, so a sweep is inside the card.
use Rattle.std.specs.Prelude.{None, Option, Some}
use mathlib.Core.Path.{◌≡◌, refl}
use mathlib.Core.Bool.{true, false, ◌&&◌, false≢true, and-eq-true_iff}
use mathlib.Core.List.{[]}
use Prim.Native.Nat.{ℕ, ◌+◌, ◌-◌, ◌/◌, ◌≤◌, ◌<◌}
use native.Mathlib.Omega.{arith}
use borrow.Author.Tests.{leb-false, ltb-false}
use lib.Dec.{ltb}
use Rattle.card.specs.declared.EraseMarks.{EraseMarks}
use Rattle.card.specs.declared.Core.{Core}
use Rattle.card.specs.declared.command.Command.TheVariants.{Erase}
use Rattle.card.specs.declared.done.Response.TheVariants.{R1}
use Rattle.card.specs.declared.done.Effect.TheVariants.{Sweep}
use Rattle.card.specs.declared.done.Done.{Done}
use Rattle.card.specs.Settings.{BLOCK, capacity}
use Rattle.card.specs.Record.{no_erase, is_set, address}
use Rattle.card.specs.Status.{OUT_OF_RANGE, ERASE_SEQ_ERROR, ERASE_PARAM}
use Rattle.card.specs.Table.{row, legal}
use Rattle.card.specs.Protect.{whole, any_guarded}
use Rattle.card.specs.Checks.{◌sets◌, outside, address_checks}
use Rattle.card.specs.Execute.{ran, raise, drop_erase, erase_start, erase_end, skipped, moved, erase}
use Rattle.card.specs.Soundness.{mark_outside}
use Rattle.card.proofs.Choices.{cond_elim}
use Rattle.card.proofs.Facts.{Sturdy}
use Rattle.card.proofs.Changes.{pend, none-pending}
use Rattle.card.proofs.Moves.{all, keeps_rca}
use Rattle.card.proofs.Started.{Right, right, passed, checked-right}
use Rattle.card.proofs.Opened.{moved-sturdy}

-- a mark that is set is below what it is not outside of
mark_in : (top : ℕ) (m : Option ℕ) → is_set m ≡ true → mark_outside top m ≡ false → address m < top
mark_in top None e h = absurd (false≢true e)
mark_in top (Some a) e h = leb-false top a h

-- the same record, but for its kept bits
pub record Alike (c d : Core) : Type 0 where
  pub sturdy : Sturdy d
  pub state : d.bus ≡ c.bus
  pub settings : d.settings ≡ c.settings
  pub marks : d.marks ≡ c.marks

module _ (c : Core) (f : Sturdy c) where
  pub start_right : (a : ℕ) → Right c (erase_start c a)
  unfolding erase_start
  start_right a =
      let top = capacity c.settings in
      checked-right c (address_checks top a) _ f
      (λ e.
      right (pend c f (record { first = Some a; second = None }) (record { first = (passed (outside top a sets OUT_OF_RANGE) [] e).0; second = refl }))
      refl refl)

  drop-right : (n : ℕ) → Right c (ran (drop_erase (raise c n)) R1)
  drop-right n = right (pend c f no_erase (none-pending c.settings)) refl refl

  pub end-right : (a : ℕ) → Right c (erase_end c a)
  unfolding erase_end
  end-right a =
      let top = capacity c.settings in
      cond_elim (λ (d : Done). Right c d) (is_set c.erase.first)
      (λ t.
      checked-right c (address_checks top a) _ f
      (λ e.
      let both : EraseMarks = record { first = c.erase.first; second = Some a } in
      right (pend c f both (record { first = f.erase.first; second = (passed (outside top a sets OUT_OF_RANGE) [] e).0 })) refl refl))
      (λ t. drop-right ERASE_SEQ_ERROR)

  skipped-alike : (first count : ℕ) → Alike c (drop_erase (skipped c first count))
  unfolding skipped
  skipped-alike first count =
      let dropped = pend c f no_erase (none-pending c.settings) in
      cond_elim (λ (d : Core). Alike c (drop_erase d)) (any_guarded (whole c.settings) c.marks first count)
      (λ e. record { sturdy = dropped; state = refl; settings = refl; marks = refl })
      (λ e. record { sturdy = dropped; state = refl; settings = refl; marks = refl })

-- a sweep inside the card
sweep_right : (c : Core) → Sturdy c → legal Erase c.bus ≡ true → (first count : ℕ) → first + count ≤ c.settings.blocks
    → Right c (record { core = moved Erase (drop_erase (skipped c first count)); response = R1; effect = Sweep first count })
unfolding all keeps_rca row
sweep_right c f permitted first count inside =
    let a : Alike c (drop_erase (skipped c first count)) = skipped-alike c f first count in
    record {
      sturdy = moved-sturdy (drop_erase (skipped c first count)) a.sturdy Erase (rw a.state permitted) refl;
      settings = a.settings;
      marks = a.marks;
      inside = inside;
    }

-- the last block of the sweep is a block of the card
pub erase-right : (c : Core) → Sturdy c → legal Erase c.bus ≡ true → Right c (erase c)
unfolding erase all keeps_rca row
erase-right c f permitted =
    let first = address c.erase.first in
    let second = address c.erase.second in
    let P : Done → Type 0 = λ d. Right c d in
    cond_elim P (is_set c.erase.first && is_set c.erase.second)
    (λ t. cond_elim P (ltb second first) (λ e. drop-right c f ERASE_PARAM)
    (λ e.
    let order : first ≤ second = ltb-false second first e in
    let set = (and-eq-true_iff (is_set c.erase.first) (is_set c.erase.second)).0 t in
    let below : second < capacity c.settings = mark_in (capacity c.settings) c.erase.second set.1 f.erase.second in
    sweep_right c f permitted (first / BLOCK) (second / BLOCK + 1 - first / BLOCK) (omega arith)))
    (λ t. drop-right c f ERASE_SEQ_ERROR)
