-- Laws of the register: one turn, k turns, and a run over bits.
-- Assumes nothing.
use mathlib.Core.Path.{◌≡◌, refl, sym, ap, ◌∙◌}
use mathlib.Core.Bool.{Bool, true, false, xor}
use mathlib.Core.List.{List, [], ◌∷◌, ◌++◌, append-nil, append_assoc}
use Prim.Native.Nat.{ℕ, zero, suc, ◌≤◌, ◌<◌}
use native.Mathlib.Omega.{arith}
use lib.ListN.{length, replicate, length-append, length-replicate}
use Rattle.crc.specs.Crc.{◌⊕◌, shift, turns, run, crc, clear}
use Rattle.crc.proofs.Xor.{bit-false, xor_assoc, xor-right_comm, xor_swap, xor_nil, xor_self, xor-zeros, length-xor, append_xor_append, append_xor}

-- one place up, before the polynomial is taken off
abbrev pub up : List Bool → List Bool
up r = r ++ (false ∷ [])

pub length_up : (r : List Bool) → length (up r) ≡ suc (length r)
length_up r = simp length-append (omega arith)

pub up-zeros : (n : ℕ) → up (replicate n false) ≡ replicate (suc n) false
up-zeros zero = refl
up-zeros (suc n) = ap {B = List Bool} (λ l. false ∷ l) (up-zeros n)

up-xor : (r s : List Bool) → length r ≡ length s → up (r ⊕ s) ≡ up r ⊕ up s
unfolding ◌⊕◌ xor
up-xor r s h = sym (append_xor_append r s (false ∷ []) (false ∷ []) h)

pub length_shift : (p r : List Bool) → length r ≡ length p → length (shift p r) ≡ length p
unfolding shift
length_shift p [] h = h
length_shift p (false ∷ r) h = length_up r ∙ h
length_shift p (true ∷ r) h = length-xor (up r) p (omega (arith, length_up r)) ∙ length_up r ∙ h

shift-zeros : (p : List Bool) (n : ℕ) → shift p (replicate n false) ≡ replicate n false
unfolding shift
shift-zeros p zero = refl
shift-zeros p (suc n) = up-zeros n

pub shift-xor : (p r s : List Bool) → length r ≡ length p → length s ≡ length p → shift p (r ⊕ s) ≡ shift p r ⊕ shift p s
unfolding shift ◌⊕◌ xor
shift-xor p [] [] hr hs = refl
shift-xor p [] (y ∷ s) hr hs = absurd (omega arith)
shift-xor p (x ∷ r) [] hr hs = absurd (omega arith)
shift-xor p (false ∷ r) (false ∷ s) hr hs = up-xor r s (omega arith)
shift-xor p (false ∷ r) (true ∷ s) hr hs = cc (up-xor r s (omega arith), xor_assoc (up r) (up s) p)
shift-xor p (true ∷ r) (false ∷ s) hr hs = cc (up-xor r s (omega arith), xor-right_comm (up r) (up s) p)
shift-xor p (true ∷ r) (true ∷ s) hr hs =
    let fits : length p ≤ length (up (r ⊕ s)) = omega (arith, length_up (r ⊕ s), length-xor r s (omega arith)) in
    cc (up-xor r s (omega arith), xor_swap (up r) p (up s) p, xor_self p, xor-zeros (up (r ⊕ s)) (length p) fits)

-- what is added below the top before a turn may be added after it, one place up
shift-below : (p r bs : List Bool) → length bs < length r → shift p (r ⊕ (false ∷ bs)) ≡ shift p r ⊕ bs
unfolding shift ◌⊕◌ xor
shift-below p [] bs h = absurd (omega arith)
shift-below p (false ∷ r) bs h = sym (append_xor r bs (false ∷ []) (omega arith))
shift-below p (true ∷ r) bs h = cc (append_xor r bs (false ∷ []) (omega arith), xor-right_comm (up r) bs p)

pub turns-zeros : (p : List Bool) (k n : ℕ) → turns p k (replicate n false) ≡ replicate n false
unfolding turns
turns-zeros p zero n = refl
turns-zeros p (suc k) n = ap (turns p k) (shift-zeros p n) ∙ turns-zeros p k n

pub length-turns : (p : List Bool) (k : ℕ) (r : List Bool) → length r ≡ length p → length (turns p k r) ≡ length p
unfolding turns
length-turns p zero r h = h
length-turns p (suc k) r h = length-turns p k (shift p r) (length_shift p r h)

pub turns-xor : (p : List Bool) (k : ℕ) (r s : List Bool) → length r ≡ length p → length s ≡ length p → turns p k (r ⊕ s) ≡ turns p k r ⊕ turns p k s
unfolding turns
turns-xor p zero r s hr hs = refl
turns-xor p (suc k) r s hr hs =
    ap (turns p k) (shift-xor p r s hr hs) ∙ turns-xor p k (shift p r) (shift p s) (length_shift p r hr) (length_shift p s hs)

-- as many turns as there are zeros at the top take nothing off: what is below them moves up
pub turns_up : (p : List Bool) (k : ℕ) (r : List Bool) → turns p k (replicate k false ++ r) ≡ r ++ replicate k false
unfolding turns shift
turns_up p zero r = sym (append-nil r)
turns_up p (suc k) r =
    ap (turns p k) (append_assoc (replicate k false) r (false ∷ []))
    ∙ turns_up p k (up r)
    ∙ append_assoc r (false ∷ []) (replicate k false)

-- the first of the bits that enter, and the others behind it
enter_split : (r : List Bool) (b : Bool) (bs : List Bool) → r ⊕ (b ∷ []) ⊕ (false ∷ bs) ≡ r ⊕ (b ∷ bs)
unfolding ◌⊕◌
enter_split r b bs = xor_assoc r (b ∷ []) (false ∷ bs) ∙ ap (λ (x : Bool). r ⊕ (x ∷ bs)) (bit-false b)

-- no more bits than the register has, at once
pub run-turns : (p r bs : List Bool) → length r ≡ length p → length bs ≤ length p → run p r bs ≡ turns p (length bs) (r ⊕ bs)
unfolding run turns
run-turns p r [] hr hb = sym (xor_nil r)
run-turns p r (b ∷ bs) hr hb =
    let s : List Bool = r ⊕ (b ∷ []) in
    let h : length s ≡ length p = length-xor r (b ∷ []) (omega arith) ∙ hr in
    run-turns p (shift p s) bs (length_shift p s h) (omega arith)
    ∙ ap (turns p (length bs)) (sym (shift-below p s bs (omega arith)) ∙ ap (shift p) (enter_split r b bs))

pub run_append : (p r a b : List Bool) → run p r (a ++ b) ≡ run p (run p r a) b
unfolding run
run_append p r [] b = refl
run_append p r (x ∷ a) b = run_append p (shift p (r ⊕ (x ∷ []))) a b

pub crc_append : (p a b : List Bool) → crc p (a ++ b) ≡ run p (crc p a) b
unfolding crc
crc_append p a b = run_append p (clear p) a b

pub length-clear : (p : List Bool) → length (clear p) ≡ length p
length-clear p = length-replicate (length p) false

module _ (p : List Bool) (wide : 1 ≤ length p) where
  pub length_enter : (r : List Bool) (b : Bool) → length r ≡ length p → length (r ⊕ (b ∷ [])) ≡ length p
  length_enter r b h = length-xor r (b ∷ []) (omega arith) ∙ h

  length-turn : (r : List Bool) (b : Bool) → length r ≡ length p → length (shift p (r ⊕ (b ∷ []))) ≡ length p
  length-turn r b h = length_shift p (r ⊕ (b ∷ [])) (length_enter r b h)

  length_run : (r bs : List Bool) → length r ≡ length p → length (run p r bs) ≡ length p
  unfolding run
  length_run r [] h = h
  length_run r (b ∷ bs) h = length_run (shift p (r ⊕ (b ∷ []))) bs (length-turn r b h)

  pub length-crc : (bs : List Bool) → length (crc p bs) ≡ length p
  unfolding crc
  length-crc bs = length_run (clear p) bs (length-clear p)

  pub run-zeros : (r : List Bool) (k : ℕ) → length r ≡ length p → run p r (replicate k false) ≡ turns p k r
  unfolding run turns
  run-zeros r zero h = refl
  run-zeros r (suc k) h =
      ap (λ (t : List Bool). run p (shift p t) (replicate k false)) (xor-zeros r 1 (omega arith))
      ∙ run-zeros (shift p r) k (length_shift p r h)

  pub zeros-crc : (k : ℕ) (bs : List Bool) → crc p (replicate k false ++ bs) ≡ crc p bs
  unfolding crc
  zeros-crc k bs = cc (crc_append p (replicate k false) bs, run-zeros (clear p) k (length-clear p), turns-zeros p k (length p))

  turn-xor : (r s : List Bool) (x y : Bool) → length r ≡ length p → length s ≡ length p
      → shift p (r ⊕ s ⊕ (xor x y ∷ [])) ≡ shift p (r ⊕ (x ∷ [])) ⊕ shift p (s ⊕ (y ∷ []))
  unfolding ◌⊕◌
  turn-xor r s x y hr hs =
      ap (shift p) (xor_swap r s (x ∷ []) (y ∷ [])) ∙ shift-xor p (r ⊕ (x ∷ [])) (s ⊕ (y ∷ [])) (length_enter r x hr) (length_enter s y hs)

  run-xor : (r s a b : List Bool) → length r ≡ length p → length s ≡ length p → length a ≡ length b → run p (r ⊕ s) (a ⊕ b) ≡ run p r a ⊕ run p s b
  unfolding run ◌⊕◌
  run-xor r s [] [] hr hs h = refl
  run-xor r s [] (y ∷ b) hr hs h = absurd (omega arith)
  run-xor r s (x ∷ a) [] hr hs h = absurd (omega arith)
  run-xor r s (x ∷ a) (y ∷ b) hr hs h =
      ap (λ (t : List Bool). run p t (a ⊕ b)) (turn-xor r s x y hr hs)
      ∙ run-xor (shift p (r ⊕ (x ∷ []))) (shift p (s ⊕ (y ∷ []))) a b (length-turn r x hr) (length-turn s y hs) (omega arith)

  pub crc-xor : (a b : List Bool) → length a ≡ length b → crc p (a ⊕ b) ≡ crc p a ⊕ crc p b
  unfolding crc
  crc-xor a b h =
      cc (xor-zeros (clear p) (length p) (omega (arith, length-clear p)), run-xor (clear p) (clear p) a b (length-clear p) (length-clear p) h)
