-- Damage in front of a bit that came as it was sent is damage of the bits before it.
use mathlib.Core.Path.{◌≡◌, refl, sym, ap, ◌∙◌}
use mathlib.Core.Bool.{Bool, false}
use mathlib.Core.List.{List, [], ◌∷◌, ◌++◌}
use Prim.Native.Nat.{ℕ, zero, suc, ◌≤◌}
use native.Mathlib.Omega.{arith}
use lib.ListN.{length, replicate}
use Rattle.crc.specs.Crc.{◌⊕◌}
use Rattle.crc.specs.Altered.{count, Burst, Reach, scattered, neighbours, Altered}
use Rattle.crc.proofs.Count.{count_append, count_zeros, count-zero}
use Rattle.crc.proofs.Xor.{append_xor_append, bit_self}

-- ---- the front of a burst is a burst

burst_behind : (near : ℕ) (e : List Bool) → Burst near e → Burst near (false ∷ e)
burst_behind near e b = record {
  before = suc b.before;
  window = b.window;
  after = b.after;
  short = b.short;
  outside = ap (λ (r : List Bool). false ∷ r) b.outside;
}

module _ (rest : List Bool) where
  -- a window at the front
  cut : (e window : List Bool) (after : ℕ) → e ++ rest ≡ window ++ replicate after false
      → (w : List Bool) × (k : ℕ) × (length w ≤ length window) × (e ≡ w ++ replicate k false)
  cut [] window after q = ([], 0, omega arith, refl)
  cut (x ∷ e) [] after q =
      ([], suc (length e), omega arith, count-zero (x ∷ e) (omega (arith, count_append (x ∷ e) rest, ap count q, count_zeros after)))
  cut (x ∷ e) (y ∷ window) after q =
      let (w, k, l, p) = cut e window after (cc) in
      (x ∷ w, k, omega arith, ap (λ (r : List Bool). x ∷ r) p)

  burst_front : (near : ℕ) (e : List Bool) (before : ℕ) (window : List Bool) (after : ℕ) → length window ≤ near
      → e ++ rest ≡ replicate before false ++ (window ++ replicate after false) → Burst near e
  burst_front near e zero window after h q =
      let (w, k, l, p) = cut e window after q in
      record { before = 0; window = w; after = k; short = omega arith; outside = p }
  burst_front near [] (suc before) window after h q = record { before = 0; window = []; after = 0; short = omega arith; outside = refl }
  burst_front near (x ∷ e) (suc before) window after h q =
      let p : x ≡ false = cc in
      rw p (burst_behind near e (burst_front near e before window after h (cc)))

reach-front : (few near : ℕ) (e : List Bool) → Reach few near (e ++ (false ∷ [])) → Reach few near e
reach-front few near e (scattered k) = scattered (omega (arith, count_append e (false ∷ [])))
reach-front few near e (neighbours b) = neighbours (burst_front (false ∷ []) near e b.before b.window b.after b.short b.outside)

-- ---- the front of a word

pub altered-front : (few near : ℕ) (f g : List Bool) (b : Bool) → length f ≡ length g
    → Altered few near (f ++ (b ∷ [])) (g ++ (b ∷ [])) → Altered few near f g
unfolding count ◌⊕◌
altered-front few near f g b l a =
    let e : (f ++ (b ∷ [])) ⊕ (g ++ (b ∷ [])) ≡ (f ⊕ g) ++ (false ∷ []) =
    append_xor_append f g (b ∷ []) (b ∷ []) l ∙ ap (λ (x : Bool). (f ⊕ g) ++ (x ∷ [])) (bit_self b) in
    record {
      same_length = sym l;
      differs = omega (arith, rw e at a.differs, count_append (f ⊕ g) (false ∷ []));
      reach = reach-front few near (f ⊕ g) (rw e at a.reach);
    }
