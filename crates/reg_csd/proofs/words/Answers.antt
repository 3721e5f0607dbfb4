-- `words` puts the parts of CSD together, and C_SIZE out of its two.
use mathlib.Core.Path.{◌≡◌, refl, ap, ◌∙◌}
use mathlib.Core.Bool.{Bool}
use mathlib.Core.List.{List, [], ◌∷◌, ◌++◌, append_assoc}
use Prim.Native.Nat.{ℕ}
use lib.Dec.{lit≤}
use lib.ListN.{take, drop}
use Rattle.crc.specs.Bits.{bits}
use Rattle.crc.proofs.Bits.{bits-split}
use Rattle.codec.specs.Layout.{read, write}
use Rattle.codec.proofs.Masks.{join-bits}
use Rattle.reg_csd.specs.declared.Csd.{Csd}
use Rattle.reg_csd.specs.Csd.{csd_slots, csd_values}
use Rattle.reg_cid.proofs.Words.{write_append}
use Rattle.reg_csd.proofs.words.Goals as goal

front : (v : ℕ) (vs : List ℕ) → write (drop 12 csd_slots) (v ∷ vs) ≡ bits 12 v ++ write (drop 13 csd_slots) vs
unfolding write
front v vs = refl

parts : (c : Csd) → write csd_slots (csd_values c)
    ≡ write (take 12 csd_slots) (take 10 (csd_values c))
    ++ (bits 12 c.c_size ++ (write (take 9 (drop 13 csd_slots)) (take 9 (drop 11 (csd_values c))) ++ write (drop 22 csd_slots) (drop 20 (csd_values c))))
unfolding read
parts c =
    let vs : List ℕ = csd_values c in
    write_append (take 12 csd_slots) (drop 12 csd_slots) (take 10 vs) (drop 10 vs) [] refl
    ∙ ap (λ (x : List Bool). write (take 12 csd_slots) (take 10 vs) ++ x) (front c.c_size (drop 11 vs))
    ∙ ap (λ (x : List Bool). write (take 12 csd_slots) (take 10 vs) ++ (bits 12 c.c_size ++ x))
    (write_append (take 9 (drop 13 csd_slots)) (drop 22 csd_slots) (take 9 (drop 11 vs)) (drop 20 vs) [] refl)

pub returns : goal.returns
returns c =
    rw (parts c.args.c)
    (simp (
      c.first.ensures,
      join-bits 33 _ _ _ _ _ c.join.ensures (lit≤ tt),
      c.middle.ensures,
      c.last.ensures,
      bits-split 10 2 c.args.c.c_size,
      append_assoc,
    ))
