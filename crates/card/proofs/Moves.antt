-- The transition table and the record: a move of the table keeps an RCA right, and lands on a state that is right.
use mathlib.Core.Path.{◌≡◌, refl, sym, subst}
use mathlib.Core.Bool.{Bool, true, false, cond, not, ◌&&◌, ◌||◌, beq, false≢true, and-eq-true_iff}
use mathlib.Core.List.{List, [], ◌∷◌}
use Prim.Native.Nat.{ℕ, ◌≤◌}
use native.Mathlib.Omega.{arith}
use borrow.Author.Tests.{eqb-true}
use lib.Dec.{eqb, leb}
use Rattle.card.specs.declared.Settings.{Settings}
use Rattle.card.specs.declared.State.{State}
use Rattle.card.specs.declared.Source.{Source}
use Rattle.card.specs.declared.Sink.{Sink}
use Rattle.card.specs.declared.State.TheVariants.{Idle, Ready, Ident, Stby, Tran, Data, Rcv, Prg, Dis, Ina}
use Rattle.card.specs.declared.Bus.{Bus}
use Rattle.card.specs.declared.Open.{Open}
use Rattle.card.specs.declared.command.Command.{Command}
use Rattle.card.specs.State.{idle, ready, ident, stby, tran, «data», rcv, prg, dis, ina, number, in_spi, number_in, arrive, open_of, transfer_address}
use Rattle.card.specs.Table.{Move, row, moves, has, lead, legal, after}
use Rattle.card.specs.Soundness.{written_most, off_write, bad_rca, bad_app}
use Rattle.card.specs.Locked.{shut}
use Rattle.card.proofs.Choices.{cond_elim}
use Rattle.card.proofs.Facts.{Transfer}
use Rattle.card.proofs.Changes.{spi-rca}

-- ---- what all moves of a row have, the move taken has

unfoldable pub all : (ℕ → ℕ → Bool) → List Move → Bool
all p [] = true
all p (m ∷ ms) = p m.from m.to && all p ms

all-taken : (p : ℕ → ℕ → Bool) (ms : List Move) (s : ℕ) → all p ms ≡ true → has ms s ≡ true → p s (lead ms s) ≡ true
unfolding all has lead
all-taken p [] s e h = absurd (false≢true h)
all-taken p (m ∷ ms) s e h =
    let (here, there) = (and-eq-true_iff (p m.from m.to) (all p ms)).0 e in
    go (eqb m.from s) refl h here (all-taken p ms s there)
  where
    go : (b : Bool) → eqb m.from s ≡ b → (b || has ms s) ≡ true → p m.from m.to ≡ true → (has ms s ≡ true → p s (lead ms s) ≡ true)
        → p s (cond b m.to (lead ms s)) ≡ true
    go true q t here there = rw (eqb-true m.from s q) at here
    go false q t here there = there t

-- ---- the RCA: zero before stby, nonzero from there on, free in ina

-- a move to ina, or between states of one kind
unfoldable pub keeps_rca : ℕ → ℕ → Bool
keeps_rca k to = eqb to ina || (not (eqb k ina) && beq (leb stby k) (leb stby to))

rca-kept : (k to rca : ℕ) → keeps_rca k to ≡ true → bad_rca false k rca ≡ false → bad_rca false to rca ≡ false
unfolding keeps_rca bad_rca
rca-kept k to rca e w = go (eqb to ina) (eqb k ina) (leb stby k) (leb stby to) e w
  where
    go : (a b x y : Bool) → (a || (not b && beq x y)) ≡ true → cond b false (cond x (eqb rca 0) (not (eqb rca 0))) ≡ false
        → cond a false (cond y (eqb rca 0) (not (eqb rca 0))) ≡ false
    go true b x y e w = refl
    go false true x y e w = absurd (false≢true e)
    go false false true true e w = w
    go false false true false e w = absurd (false≢true e)
    go false false false true e w = absurd (false≢true e)
    go false false false false e w = w

-- a move from a state that has an RCA
unfoldable pub selects : ℕ → ℕ → Bool
selects k to = not (eqb k ina) && leb stby k

rca-found : (k to rca : ℕ) → selects k to ≡ true → bad_rca false k rca ≡ false → eqb rca 0 ≡ false
unfolding selects bad_rca
rca-found k to rca e w = go (eqb k ina) (leb stby k) e w
  where
    go : (b x : Bool) → (not b && x) ≡ true → cond b false (cond x (eqb rca 0) (not (eqb rca 0))) ≡ false → eqb rca 0 ≡ false
    go true x e w = absurd (false≢true e)
    go false true e w = w
    go false false e w = absurd (false≢true e)

-- a move from the state of a number
unfoldable pub from : ℕ → ℕ → ℕ → Bool
from n k to = eqb k n

-- ---- the states from stby to dis: in SD mode the RCA is not zero, and the application mark may stand

pub record Selected (s : State) : Type 0 where
  pub rca : (spi : Bool) (n : ℕ) → bad_rca spi (number s) n ≡ cond spi false (eqb n 0)
  pub app : (spi b : Bool) → bad_app spi (number s) b ≡ false

nowhere : (spi b : Bool) → cond spi false (b && false) ≡ false
nowhere true b = refl
nowhere false true = refl
nowhere false false = refl

either : (spi : Bool) (n : ℕ) → cond spi false (eqb n 0) ≡ cond spi false (eqb n 0)
either spi n = refl

pub stby-selected : Selected Stby
unfolding bad_rca bad_app
stby-selected = record { rca = either; app = nowhere }

pub tran-selected : Selected Tran
unfolding bad_rca bad_app
tran-selected = record { rca = either; app = nowhere }

pub data_selected : (s : Source) → Selected (Data s)
unfolding bad_rca bad_app
data_selected s = record { rca = either; app = nowhere }

pub rcv-selected : (s : Sink) → Selected (Rcv s)
unfolding bad_rca bad_app
rcv-selected s = record { rca = either; app = nowhere }

pub prg-selected : Selected Prg
unfolding bad_rca bad_app
prg-selected = record { rca = either; app = nowhere }

pub dis-selected : Selected Dis
unfolding bad_rca bad_app
dis-selected = record { rca = either; app = nowhere }

-- ---- landing: one law for the walk over the states

-- no transfer is open
pub record Free (o : Open) : Type 0 where
  pub address : transfer_address o ≡ 0
  pub write : off_write o ≡ false
  pub most : (n : ℕ) → written_most o n ≡ n
  pub closed : shut o ≡ true

free : {o : Open} → transfer_address o ≡ 0 → off_write o ≡ false → ((n : ℕ) → written_most o n ≡ n) → shut o ≡ true → Free o
free a w m c = record { address = a; write = w; most = m; closed = c }

module _ (P : State → Type 0) (n : ℕ) (t : State) where
  pub arrive_elim : P t → ((s : State) → number s ≡ n → Free (open_of s) → P s) → P Ina → P (arrive n t)
  unfolding arrive
  arrive_elim held plain last =
      cond_elim P (eqb n idle) (here Idle idle refl (free refl refl (λ m. refl) refl))
      (λ e. cond_elim P (eqb n ready) (here Ready ready refl (free refl refl (λ m. refl) refl))
      (λ e. cond_elim P (eqb n ident) (here Ident ident refl (free refl refl (λ m. refl) refl))
      (λ e. cond_elim P (eqb n stby) (here Stby stby refl (free refl refl (λ m. refl) refl))
      (λ e. cond_elim P (eqb n tran) (here Tran tran refl (free refl refl (λ m. refl) refl))
      (λ e. cond_elim P (eqb n «data») (λ q. held)
      (λ e. cond_elim P (eqb n rcv) (λ q. held)
      (λ e. cond_elim P (eqb n prg) (here Prg prg refl (free refl refl (λ m. refl) refl))
      (λ e. cond_elim P (eqb n dis) (here Dis dis refl (free refl refl (λ m. refl) refl)) (λ q. last)))))))))
    where
      here : (s : State) (k : ℕ) → number s ≡ k → Free (open_of s) → eqb n k ≡ true → P s
      here s k e f q = let m : n ≡ k = eqb-true n k q in plain s (omega arith) f

free-transfer : {s : Settings} {n : ℕ} (o : Open) → Free o → n ≤ s.blocks → Transfer s o n
free-transfer {s} {n} o f h =
    let most : written_most o s.blocks ≡ s.blocks = f.most s.blocks in
    let address : transfer_address o ≡ 0 = f.address in
    record { inside = omega arith; aligned = f.write; count = h; most = omega arith }

pub arrive-transfer : {s : Settings} {n : ℕ} (k : ℕ) (t : State) → Transfer s (open_of t) n → Transfer s (open_of (arrive k t)) n
arrive-transfer {s} {n} k t h =
    arrive_elim (λ (x : State). Transfer s (open_of x) n) k t h (λ x e f. free-transfer (open_of x) f h.count)
    (free-transfer (open_of Ina) (free refl refl (λ m. refl) refl) h.count)

arrive-rca : (k : ℕ) (t : State) (rca : ℕ) → bad_rca false k rca ≡ false → bad_rca false (number t) rca ≡ false
    → bad_rca false (number (arrive k t)) rca ≡ false
unfolding bad_rca
arrive-rca k t rca w h =
    arrive_elim (λ (x : State). bad_rca false (number x) rca ≡ false) k t h (λ x e f. subst (λ (m : ℕ). bad_rca false m rca ≡ false) (sym e) w) refl

-- ---- a command of the table, in a mode; in SPI mode nothing is asked of the RCA

module _ (cmd : Command) (s : State) where
  moved-rca : (spi : Bool) → has (moves spi cmd) (number_in spi s) ≡ true → (t : State) (rca : ℕ) → all keeps_rca (row cmd).sd ≡ true
      → bad_rca spi (number s) rca ≡ false → bad_rca spi (number t) rca ≡ false
      → bad_rca spi (number (arrive (lead (moves spi cmd) (number_in spi s)) t)) rca ≡ false
  unfolding moves number_in
  moved-rca true permitted t rca a h ht = spi-rca _ rca
  moved-rca false permitted t rca a h ht =
      let n = number s in
      arrive-rca (lead (row cmd).sd n) t rca (rca-kept n (lead (row cmd).sd n) rca (all-taken keeps_rca (row cmd).sd n a permitted) h) ht

  -- where every state that it runs in has an RCA
  found-rca : (spi : Bool) → has (moves spi cmd) (number_in spi s) ≡ true → (rca : ℕ) → all selects (row cmd).sd ≡ true
      → bad_rca spi (number s) rca ≡ false → cond spi false (eqb rca 0) ≡ false
  unfolding moves number_in
  found-rca true permitted rca a h = refl
  found-rca false permitted rca a h = rca-found (number s) (lead (row cmd).sd (number s)) rca (all-taken selects (row cmd).sd (number s) a permitted) h

module _ (cmd : Command) (b : Bus) (permitted : legal cmd b ≡ true) where
  pub after-rca : (t : State) (rca : ℕ) → all keeps_rca (row cmd).sd ≡ true → bad_rca (in_spi b.mode) (number b.state) rca ≡ false
      → bad_rca (in_spi b.mode) (number t) rca ≡ false → bad_rca (in_spi b.mode) (number (after cmd b t)) rca ≡ false
  unfolding legal after
  after-rca t rca a h ht = moved-rca cmd b.state (in_spi b.mode) permitted t rca a h ht

  pub selected-rca : (rca : ℕ) → all selects (row cmd).sd ≡ true → bad_rca (in_spi b.mode) (number b.state) rca ≡ false
      → cond (in_spi b.mode) false (eqb rca 0) ≡ false
  unfolding legal
  selected-rca rca a h = found-rca cmd b.state (in_spi b.mode) permitted rca a h

  -- SD mode: the state that it runs in
  pub came_from : (n rca : ℕ) → in_spi b.mode ≡ false → all (from n) (row cmd).sd ≡ true → bad_rca (in_spi b.mode) (number b.state) rca ≡ false
      → bad_rca false n rca ≡ false
  unfolding legal from moves number_in
  came_from n rca e a h =
      let here : has (row cmd).sd (number b.state) ≡ true = rw e at permitted in
      let bad : bad_rca false (number b.state) rca ≡ false = rw e at h in
      rw (eqb-true (number b.state) n (all-taken (from n) (row cmd).sd (number b.state) a here)) at bad
