-- A sound record as facts about its parts: the one form that the laws of calls read and give.
use mathlib.Core.Path.{◌≡◌, refl}
use mathlib.Core.Bool.{Bool, true, false}
use mathlib.Core.List.{List, [], ◌∷◌}
use Prim.Native.Nat.{ℕ, zero, suc, ◌≤◌}
use borrow.Author.Tests.{eq-eqb, ltb-false, leb-true, le-ltb, le-leb}
use lib.Dec.{leb}
use lib.ListN.{get_or}
use Rattle.reg_csd.specs.Csd.{csd_values}
use Rattle.reg_csd.specs.declared.Csd.{Csd}
use Rattle.card.specs.declared.Settings.{Settings}
use Rattle.card.specs.declared.State.{State}
use Rattle.card.specs.declared.Open.{Open}
use Rattle.card.specs.declared.EraseMarks.{EraseMarks}
use Rattle.card.specs.declared.Core.{Core}
use Rattle.card.specs.Settings.{BLOCK, capacity, groups, allowed, csd_of}
use Rattle.card.specs.State.{number, in_spi, open_of, transfer_address}
use Rattle.card.specs.Soundness.{equal, written_most, off_write, mark_outside, bad_rca, marked_from, bad_app, unsound_tests, any_of, unsound}
use Rattle.card.proofs.Choices.{neither, nor, both, not-both}

-- the transfer that is open is inside the card, and A22's count is not beyond it
pub record Transfer (s : Settings) (o : Open) (written : ℕ) : Type 0 where
  pub inside : transfer_address o ≤ capacity s
  pub aligned : off_write o ≡ false
  pub count : written ≤ s.blocks
  pub most : written ≤ written_most o s.blocks

pub record Pending (s : Settings) (e : EraseMarks) : Type 0 where
  pub first : mark_outside (capacity s) e.first ≡ false
  pub second : mark_outside (capacity s) e.second ≡ false

-- no mark behind the last group
abbrev pub Marked : Settings → List ℕ → Type 0
Marked s marks = marked_from marks (groups s) ≡ false

pub record Fixed (s : Settings) (d : Csd) : Type 0 where
  pub settings : allowed s ≡ true
  pub csd : equal (csd_values d) (csd_values (csd_of s)) ≡ true

pub record Size (n : ℕ) : Type 0 where
  pub low : 1 ≤ n
  pub high : n ≤ BLOCK

-- over the parts, so that what a command leaves alone needs no law
pub record Parts (s : Settings) (d : Csd) (spi : Bool) (state : State) (address left : ℕ) (e : EraseMarks) (length written : ℕ) (m : List ℕ) : Type 0 where
  pub fixed : Fixed s d
  pub polls : left ≤ s.polls
  pub size : Size length
  pub transfer : Transfer s (open_of state) written
  pub erase : Pending s e
  pub rca : bad_rca spi (number state) address ≡ false
  pub marks : Marked s m

-- all but the application mark, which a command sets last
abbrev pub Sturdy : Core → Type 0
Sturdy c = Parts c.settings c.csd (in_spi c.bus.mode) c.bus.state c.bus.rca c.bus.polls c.erase c.length c.written c.marks

abbrev pub Facts : Core → Type 0
Facts c = Sturdy c × (bad_app (in_spi c.bus.mode) (number c.bus.state) c.bus.app ≡ false)

pub equal-refl : (xs : List ℕ) → equal xs xs ≡ true
unfolding equal
equal-refl [] = refl
equal-refl (x ∷ xs) = rw (eq-eqb x x refl, equal-refl xs)

-- ---- the list of tests is those facts

none_at : (bs : List Bool) → any_of bs ≡ false → (i : ℕ) → get_or bs i false ≡ false
unfolding any_of
none_at [] e i = refl
none_at (b ∷ bs) e zero = (neither b (any_of bs) e).0
none_at (b ∷ bs) e (suc i) = none_at bs (neither b (any_of bs) e).1 i

pub facts-sound : (c : Core) → unsound c ≡ false → Facts c
unfolding unsound unsound_tests
facts-sound c e =
    let test : (i : ℕ) → get_or (unsound_tests c) i false ≡ false = none_at (unsound_tests c) e in
    let given = both (allowed c.settings) (equal (csd_values c.csd) (csd_values (csd_of c.settings))) (test 0) in
    let size = both (leb 1 c.length) (leb c.length BLOCK) (test 2) in (
      record {
        fixed = record { settings = given.0; csd = given.1 };
        polls = ltb-false c.settings.polls c.bus.polls (test 1);
        size = record { low = leb-true 1 c.length size.0; high = leb-true c.length BLOCK size.1 };
        transfer = record {
          inside = ltb-false (capacity c.settings) (transfer_address (open_of c.bus.state)) (test 3);
          aligned = test 4;
          count = ltb-false c.settings.blocks c.written (test 5);
          most = ltb-false (written_most (open_of c.bus.state) c.settings.blocks) c.written (test 6);
        };
        erase = record { first = test 7; second = test 8 };
        rca = test 9;
        marks = test 10;
      },
      test 11,
    )

pub sound-facts : (c : Core) → Facts c → unsound c ≡ false
unfolding unsound any_of unsound_tests
sound-facts c f =
    let s = f.0 in
    let t = s.transfer in
    nor (not-both s.fixed.settings s.fixed.csd)
    (nor (le-ltb c.settings.polls c.bus.polls s.polls)
    (nor (not-both (le-leb 1 c.length s.size.low) (le-leb c.length BLOCK s.size.high))
    (nor (le-ltb (capacity c.settings) (transfer_address (open_of c.bus.state)) t.inside)
    (nor t.aligned
    (nor (le-ltb c.settings.blocks c.written t.count)
    (nor (le-ltb (written_most (open_of c.bus.state) c.settings.blocks) c.written t.most)
    (nor s.erase.first (nor s.erase.second (nor s.rca (nor s.marks (nor f.1 refl)))))))))))
