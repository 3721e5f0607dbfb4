-- What a line is read as, by its word.
use mathlib.Core.Path.{◌≡◌, refl}
use mathlib.Core.Bool.{Bool, true, false, cond, ◌&&◌}
use mathlib.Core.List.{List}
use Prim.Native.Nat.{ℕ}
use lib.Dec.{eqb}
use lib.ListN.{length, take, drop}
use Rattle.std.specs.Prelude.{Option, Some, None}
use Rattle.card.specs.Soundness.{equal}
use Rattle.replay_read.specs.Hex.{all_hex, unhex}
use Rattle.replay_read.specs.declared.Input.{Input}
use Rattle.replay_read.specs.declared.Input.TheVariants.{Cmd, Blk, Take, Over}
use Rattle.replay_read.specs.Read.{Request, cmd, blk, unreadable, CMD, BLK, TAKE, OVER, held, field, field_read, read_line}

pub held-cmd : (t : List ℕ) → held (cmd t) ≡ Some (Cmd t)
unfolding held
held-cmd t = refl

pub held-blk : (t : List ℕ) → held (blk t) ≡ Some (Blk t)
unfolding held
held-blk t = refl

-- a field that was read, and one that was not
module _ (n : ℕ) (s : List ℕ) (make : List ℕ → Request) (wrap : List ℕ → Input) (h : (t : List ℕ) → held (make t) ≡ Some (wrap t)) where
  pub field-some : (t : List ℕ) → Some t ≡ field_read n s → Some (wrap t) ≡ held (field n s make)
  unfolding field held
  field-some t e = go (eqb (length s) n && all_hex s) e
    where
      go : (b : Bool) → Some t ≡ cond b (Some (unhex s)) None → Some (wrap t) ≡ held (cond b (make (unhex s)) unreadable)
      go true e = cc (h (unhex s))
      go false e = cc

  pub field-none : None ≡ field_read n s → None ≡ held (field n s make)
  unfolding field held
  field-none e = go (eqb (length s) n && all_hex s) e
    where
      go : (b : Bool) → None ≡ cond b (Some (unhex s)) None → None ≡ held (cond b (make (unhex s)) unreadable)
      go true e = cc
      go false e = refl

module _ (s : List ℕ) where
  pub read-cmd : equal (take 4 s) CMD ≡ true → (r : Option Input) → r ≡ held (field 12 (drop 4 s) cmd) → r ≡ held (read_line s)
  unfolding read_line
  read-cmd c r e = rw c e

  module _ (c : equal (take 4 s) CMD ≡ false) where
    pub read-blk : equal (take 4 s) BLK ≡ true → (r : Option Input) → r ≡ held (field 1028 (drop 4 s) blk) → r ≡ held (read_line s)
    unfolding read_line
    read-blk b r e = rw (c, b) e

    module _ (b : equal (take 4 s) BLK ≡ false) where
      pub read_take : equal s TAKE ≡ true → Some Take ≡ held (read_line s)
      unfolding read_line held
      read_take t = rw (c, b, t) refl

      module _ (t : equal s TAKE ≡ false) where
        pub read-over : equal s OVER ≡ true → Some Over ≡ held (read_line s)
        unfolding read_line held
        read-over o = rw (c, b, t, o) refl

        pub read_none : equal s OVER ≡ false → None ≡ held (read_line s)
        unfolding read_line held
        read_none o = rw (c, b, t, o) refl
