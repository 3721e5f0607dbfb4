-- What is claimed of the size pair, and proved in proofs/: the search finds 01's.
use Rattle.std.specs.Prelude.{◌≡◌, ℕ, Some, None}
use Rattle.reg_size.specs.declared.SizePair.{SizePair}
use Rattle.reg_size.specs.Size.{Gives, IsPair, size_pair}

pub record SizePairRight : Type 0 where
  -- a pair that gives n, with the smallest multiplier
  pub pair : (n : ℕ) (p : SizePair) → size_pair n ≡ Some p → IsPair n p.c_size p.c_size_mult
  -- none only where no pair gives n
  pub none : (n : ℕ) → size_pair n ≡ None → (size mult : ℕ) → Gives n size mult → ⊥
