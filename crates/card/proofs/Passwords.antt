-- The password stays sound: after the block of 42 it has 1 to 16 bytes where the card is locked, and no more than 16 elsewhere.
use mathlib.Core.Path.{◌≡◌, refl, ap, ◌∙◌}
use mathlib.Core.Bool.{Bool, true, false, not, ◌&&◌, and-eq-true_iff, false≢true}
use mathlib.Core.List.{List}
use Prim.Native.Nat.{ℕ, ◌+◌, ◌-◌, ◌≤◌}
use native.Mathlib.Omega.{arith}
use borrow.Author.Tests.{eqb-false, ne_eqb, ltb-false, leb-true, le-ltb}
use lib.Dec.{eqb, leb, ltb}
use lib.ListN.{length, drop, length-drop}
use Rattle.card.specs.declared.Sink.TheVariants.{Single, Multiple, LockUnlock}
use Rattle.card.specs.declared.Open.{Open}
use Rattle.card.specs.declared.Open.TheVariants.{Nothing, Read, Write, Busy}
use Rattle.card.specs.declared.Core.{Core}
use Rattle.card.specs.declared.Password.{Password}
use Rattle.card.specs.declared.lock.Operation.{Operation}
use Rattle.card.specs.declared.lock.Operation.TheVariants.{ForceErase, Lock, Unlock, ClearPassword, SetPassword, Invalid}
use Rattle.card.specs.Settings.{PASSWORD}
use Rattle.card.specs.Soundness.{bad_password}
use Rattle.card.specs.Lock.{is_set, operation, password_data, complete, begins, replaces, succeeds, changed}
use Rattle.card.specs.Data.{acted, lock_into, block_into, password_into}
use Rattle.card.proofs.Choices.{neither, nor}
use Rattle.card.proofs.Locked.{write-held}

-- ---- the two tests as facts

pub record Fit (locked : Bool) (n : ℕ) : Type 0 where
  pub high : n ≤ PASSWORD
  pub set : locked ≡ true → 1 ≤ n

pub fit : (locked : Bool) (n : ℕ) → bad_password locked n ≡ false → Fit locked n
unfolding bad_password
fit locked n e =
    let t = neither (locked && eqb n 0) (ltb PASSWORD n) e in
    record { high = ltb-false PASSWORD n t.1; set = go locked t.0 }
  where
    go : (l : Bool) → (l && eqb n 0) ≡ false → l ≡ true → 1 ≤ n
    go true e q = let k : n ≡ 0 → ⊥ = eqb-false n 0 e in omega (arith, k)
    go false e q = absurd (false≢true q)

pub fits_in : (locked : Bool) (n : ℕ) → Fit locked n → bad_password locked n ≡ false
unfolding bad_password
fits_in true n f = nor (ne_eqb n 0 (λ e. let h : 1 ≤ n = f.set refl in omega arith)) (le-ltb PASSWORD n f.high)
fits_in false n f = le-ltb PASSWORD n f.high

-- ---- a block of 42

module _ (c : Core) (p : Password) (old : Fit c.locked p.length) where
  -- both tests of a pair
  abbrev pair : (a b : Bool) → (a && b) ≡ true → (a ≡ true) × (b ≡ true)
  pair a b e = (and-eq-true_iff a b).0 e

  operate-fits : (o : Operation) (permanent : Bool) (s : List ℕ) → succeeds o c.locked permanent p s ≡ true
      → Fit (acted o c).locked (changed o p s).length
  unfolding succeeds changed replaces
  operate-fits ForceErase permanent s e = record { high = omega arith; set = λ q. absurd (false≢true q) }
  operate-fits Lock permanent s e =
      let t = (pair (is_set p) _ (pair (not c.locked) _ e).1).0 in
      record { high = old.high; set = λ q. leb-true 1 p.length t }
  operate-fits Unlock permanent s e = record { high = old.high; set = λ q. absurd (false≢true q) }
  operate-fits ClearPassword permanent s e = record { high = omega arith; set = λ q. absurd (false≢true q) }
  operate-fits (SetPassword lock) permanent s e =
      let d = password_data s in
      let t = pair (leb (p.length + 1) (length d)) _ (pair (begins p d) _ (pair (complete s) _ e).1).1 in
      let more : p.length + 1 ≤ length d = leb-true (p.length + 1) (length d) t.0 in
      let most : length d ≤ p.length + PASSWORD = leb-true (length d) (p.length + PASSWORD) t.1 in
      let n : length (drop p.length d) ≡ length d - p.length = length-drop p.length d in
      record { high = omega (arith, n, more, most); set = λ q. omega (arith, n, more, most) }
  operate-fits Invalid permanent s e = absurd (false≢true e)

  lock-fits : (right success : Bool) (s : List ℕ)
      → (success ≡ true → Fit (acted (operation s) c).locked (changed (operation s) p s).length)
      → Fit (lock_into right success c s).core.locked (password_into (Write LockUnlock) right success p s).length
  unfolding lock_into password_into
  lock-fits true true s h = h refl
  lock-fits true false s h = old
  lock-fits false success s h = old

-- ---- a payload into whatever is open

pub block-fits : (c : Core) (p : Password) (right : Bool) (s : List ℕ) (o : Open) → bad_password c.locked p.length ≡ false
    → bad_password (block_into o right (succeeds (operation s) c.locked c.settings.permanent p s) c s).core.locked
    (password_into o right (succeeds (operation s) c.locked c.settings.permanent p s) p s).length ≡ false
unfolding block_into password_into
block-fits c p right s Nothing e = e
block-fits c p right s (Read source) e = e
block-fits c p right s (Write (Single a held)) e = ap (λ (l : Bool). bad_password l p.length) (write-held c false a held right s) ∙ e
block-fits c p right s (Write (Multiple a held)) e = ap (λ (l : Bool). bad_password l p.length) (write-held c true a held right s) ∙ e
block-fits c p right s (Write LockUnlock) e =
    let f = fit c.locked p.length e in
    fits_in _ _ (lock-fits c p f right _ s (operate-fits c p f (operation s) c.settings.permanent s))
block-fits c p right s (Busy next) e = e
