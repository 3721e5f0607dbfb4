-- Laws of the number of places that are set, and the place of the first one.
-- Assumes nothing.
use mathlib.Core.Path.{◌≡◌, refl, sym, ap, ◌∙◌}
use mathlib.Core.Bool.{Bool, true, false, xor}
use mathlib.Core.List.{List, [], ◌∷◌, ◌++◌}
use Prim.Native.Nat.{ℕ, zero, suc, ◌+◌}
use native.Mathlib.Nat.{zero-add, suc-add, suc_inj}
use native.Mathlib.Omega.{arith}
use lib.ListN.{length, replicate}
use lib.Seq.{append_snoc}
use Rattle.crc.specs.Crc.{◌⊕◌}
use Rattle.crc.specs.Altered.{count}

pub count_append : (a b : List Bool) → count (a ++ b) ≡ count a + count b
unfolding count
count_append [] b = sym (zero-add (count b))
count_append (false ∷ a) b = count_append a b
count_append (true ∷ a) b = ap suc (count_append a b) ∙ sym (suc-add (count a) (count b))

pub count_zeros : (n : ℕ) → count (replicate n false) ≡ 0
unfolding count
count_zeros zero = refl
count_zeros (suc n) = count_zeros n

pub count-xor_zeros : (n : ℕ) (bs : List Bool) → count (replicate n false ⊕ bs) ≡ count bs
unfolding count ◌⊕◌ xor
count-xor_zeros zero bs = refl
count-xor_zeros (suc n) [] = count_zeros n
count-xor_zeros (suc n) (false ∷ bs) = count-xor_zeros n bs
count-xor_zeros (suc n) (true ∷ bs) = ap suc (count-xor_zeros n bs)

pub count-zero : (bs : List Bool) → count bs ≡ 0 → bs ≡ replicate (length bs) false
unfolding count
count-zero [] h = refl
count-zero (false ∷ bs) h = ap {B = List Bool} (λ l. false ∷ l) (count-zero bs h)
count-zero (true ∷ bs) h = absurd (omega arith)

-- the first place that is set, with k more behind it
pub record First (k : ℕ) (bs : List Bool) : Type 0 where
  pub before : ℕ
  pub rest : List Bool
  pub here : bs ≡ replicate before false ++ (true ∷ rest)
  pub more : count rest ≡ k

pub first : (bs : List Bool) (k : ℕ) → count bs ≡ suc k → First k bs
unfolding count
first [] k h = absurd (omega arith)
first (false ∷ bs) k h =
    let f = first bs k h in
    record { before = suc f.before; rest = f.rest; here = ap {B = List Bool} (λ l. false ∷ l) f.here; more = f.more }
first (true ∷ bs) k h = record { before = 0; rest = bs; here = refl; more = suc_inj h }

pub one_set : (bs : List Bool) → count bs ≡ 1 → (a : ℕ) × (b : ℕ) × (bs ≡ replicate a false ++ (true ∷ replicate b false))
one_set bs h =
    let f = first bs 0 h in
    let a : ℕ = f.before in
    (a, length f.rest, f.here ∙ ap (λ (l : List Bool). replicate a false ++ (true ∷ l)) (count-zero f.rest f.more))

-- two ones with d zeros between them
abbrev pub pair : ℕ → List Bool
pair d = true ∷ (replicate d false ++ (true ∷ []))

pub two_set : (bs : List Bool) → count bs ≡ 2 → (a : ℕ) × (d : ℕ) × (b : ℕ) × (bs ≡ replicate a false ++ (pair d ++ replicate b false))
two_set bs h =
    let f = first bs 1 h in
    let a : ℕ = f.before in
    let (d, b, q) = one_set f.rest f.more in
    (a, d, b, f.here ∙ ap (λ (l : List Bool). replicate a false ++ (true ∷ l)) (q ∙ sym (append_snoc (replicate d false) true (replicate b false))))
