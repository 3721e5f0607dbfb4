-- What leaves the register clear, where the last coefficient of the polynomial is one: no burst, and no two ones near each other.
-- Assumes nothing.
use mathlib.Core.Path.{◌≡◌, refl, sym, ap, subst, ◌∙◌}
use mathlib.Core.Bool.{Bool, true, false, not, xor}
use mathlib.Core.List.{List, [], ◌∷◌, ◌++◌, append_cancel_right}
use Prim.Native.Nat.{ℕ, zero, suc, ◌≤◌, ◌<◌}
use native.Mathlib.Omega.{arith}
use lib.Dec.{T}
use lib.ListN.{length, replicate}
use mir.Facts.{T_not, and_yes}
use Rattle.crc.specs.Crc.{◌⊕◌, shift, turns, run, crc, clear}
use Rattle.crc.specs.Altered.{count, Burst}
use Rattle.crc.specs.Detection.{same, unit, top, apart}
use Rattle.crc.proofs.Xor.{false-bit, xor-twice, length-xor}
use Rattle.crc.proofs.Register.{up, length_up, up-zeros, length_shift, length-turns, run-turns, run_append}
use Rattle.crc.proofs.Register.{crc_append, length-clear, length_enter, length-crc, run-zeros, zeros-crc}
use Rattle.crc.proofs.Count.{count_append, count_zeros, count-xor_zeros, pair}

unit-xor : (r s : List Bool) → length r ≡ length s → unit (r ⊕ s) ≡ xor (unit r) (unit s)
unfolding unit ◌⊕◌ xor
unit-xor [] [] h = refl
unit-xor [] (y ∷ s) h = absurd (omega arith)
unit-xor (x ∷ r) [] h = absurd (omega arith)
unit-xor (x ∷ []) (y ∷ []) h = refl
unit-xor (x ∷ []) (y ∷ (z ∷ s)) h = absurd (omega arith)
unit-xor (x ∷ (z ∷ r)) (y ∷ []) h = absurd (omega arith)
unit-xor (x ∷ (z ∷ r)) (y ∷ (u ∷ s)) h = unit-xor (z ∷ r) (u ∷ s) (omega arith)

unit-up : (r : List Bool) → unit (up r) ≡ false
unfolding unit
unit-up [] = refl
unit-up (x ∷ []) = refl
unit-up (x ∷ (y ∷ r)) = unit-up (y ∷ r)

unit-zeros : (n : ℕ) → unit (replicate n false) ≡ false
unfolding unit
unit-zeros zero = refl
unit-zeros (suc n) = ap unit (sym (up-zeros n)) ∙ unit-up (replicate n false)

pub unit-wide : (p : List Bool) → T (unit p) → 1 ≤ length p
unfolding unit
unit-wide [] u = absurd u
unit-wide (b ∷ p) u = omega arith

-- a one that left the register at the top would be seen at the bottom
shift-clear : (p r : List Bool) → T (unit p) → length r ≡ length p → shift p r ≡ clear p → r ≡ clear p
unfolding shift
shift-clear [] r u h e = absurd (omega (arith, unit-wide [] u))
shift-clear (c ∷ p) [] u h e = absurd (omega arith)
shift-clear (c ∷ p) (false ∷ r) u h e =
    ap {B = List Bool} (λ l. false ∷ l) (append_cancel_right r (replicate (length p) false) (false ∷ []) (e ∙ sym (up-zeros (length p))))
shift-clear (c ∷ p) (true ∷ r) u h e =
    let lost : unit (c ∷ p) ≡ false = cc (unit-xor (up r) (c ∷ p) (length_up r ∙ h), unit-up r, false-bit (unit (c ∷ p)), unit-zeros (suc (length p))) in
    absurd (subst T lost u)

turns-clear : (p : List Bool) (k : ℕ) (r : List Bool) → T (unit p) → length r ≡ length p → turns p k r ≡ clear p → r ≡ clear p
unfolding turns
turns-clear p zero r u h e = e
turns-clear p (suc k) r u h e = shift-clear p r u h (turns-clear p k (shift p r) u (length_shift p r h) e)

module _ (p : List Bool) (u : T (unit p)) where
  wide : 1 ≤ length p
  wide = unit-wide p u

  -- of no more bits than the register has, only its own leave it clear
  pub run-clear : (r bs : List Bool) → length r ≡ length p → length bs ≤ length p → run p r bs ≡ clear p → r ⊕ bs ≡ clear p
  run-clear r bs hr hb e =
      turns-clear p (length bs) (r ⊕ bs) u (length-xor r bs (omega arith) ∙ hr) (sym (run-turns p r bs hr hb) ∙ e)

  -- zeros before and behind change nothing
  pub within-clear : (a : ℕ) (bs : List Bool) (b : ℕ) → crc p (replicate a false ++ (bs ++ replicate b false)) ≡ clear p → crc p bs ≡ clear p
  within-clear a bs b e =
      let h : length (crc p bs) ≡ length p = length-crc p wide bs in
      let z : List Bool = replicate b false in
      turns-clear p b (crc p bs) u h (cc (run-zeros p wide (crc p bs) b h, crc_append p bs z, zeros-crc p wide a (bs ++ z)))

  pub burst_clear : (bs : List Bool) → Burst (length p) bs → crc p bs ≡ clear p → count bs ≡ 0
  unfolding crc
  burst_clear bs q e =
      let a : List Bool = replicate q.before false in
      let w : List Bool = q.window in
      let b : List Bool = replicate q.after false in
      let c : crc p w ≡ clear p = within-clear q.before w q.after (ap (crc p) (sym q.outside) ∙ e) in
      let none : count w ≡ count (clear p) = sym (count-xor_zeros (length p) w) ∙ ap count (run-clear (clear p) w (length-clear p) q.short c) in
      omega (arith, ap count q.outside, count_append a (w ++ b), count_append w b, count_zeros q.before, count_zeros q.after, count_zeros (length p))

  -- a second one that clears the register finds there what the first one left, come to the top
  pub pair-clear : (d : ℕ) → crc p (pair d) ≡ clear p → turns p d (shift p (top p)) ≡ top p
  unfolding crc top run
  pair-clear d e =
      let s : List Bool = shift p (top p) in
      let t : List Bool = turns p d s in
      let hs : length s ≡ length p = length_shift p (top p) (length_enter p wide (clear p) true (length-clear p)) in
      let ht : length t ≡ length p = length-turns p d s hs in
      let c : run p t (true ∷ []) ≡ clear p = cc (run-zeros p wide s d hs, run_append p s (replicate d false) (true ∷ [])) in
      cc (run-clear t (true ∷ []) ht wide c, xor-twice t (true ∷ []) (omega (arith, wide)))

same_refl : (r : List Bool) → T (same r r)
unfolding same
same_refl [] = tt
same_refl (false ∷ r) = same_refl r
same_refl (true ∷ r) = same_refl r

pub apart-turns : (p : List Bool) (n : ℕ) (r : List Bool) → T (apart p n r) → (d : ℕ) → d < n → turns p d r ≡ top p → ⊥
unfolding apart turns
apart-turns p zero r t d h e = omega arith
apart-turns p (suc n) r t zero h e =
    T_not (same r (top p)) (subst (λ (s : List Bool). T (same r s)) e (same_refl r)) (and_yes (not (same r (top p))) (apart p n (shift p r)) t).0
apart-turns p (suc n) r t (suc d) h e =
    apart-turns p n (shift p r) (and_yes (not (same r (top p))) (apart p n (shift p r)) t).1 d (omega arith) e
