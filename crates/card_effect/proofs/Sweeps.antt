-- Blocks swept one after the other, and a part of memory put back, zeroed or with a payload.
use mathlib.Core.Path.{◌≡◌, refl, sym, ap, ap₂, ◌∙◌}
use mathlib.Core.Bool.{Bool, false, cond}
use mathlib.Core.List.{List, ◌++◌, append-nil}
use Prim.Native.Nat.{ℕ, ◌+◌, ◌-◌, ◌*◌, ◌<◌, ◌≤◌}
use native.Mathlib.Omega.{arith}
use borrow.Rule.Slice.PartMut.{mid_of, put_mid, mid_len, Post-is}
use lib.ListN.{length, take, drop, replicate, length-replicate, drop_of_length-le}
use lib.Seq.{take-length}
use Rattle.card.specs.Settings.{BLOCK}
use Rattle.card.specs.Protect.{guarded}
use Rattle.card.specs.Effects.{over, swept_block, swept}
use Rattle.card_protect.proofs.Blocks.{left_one}
use Rattle.card_effect.specs.Apply.{zeroed}

module _ (all : Bool) (marks : List ℕ) (b e : ℕ) (m : List ℕ) where
  pub swept-more : b < e → swept all marks b (e - b) m ≡ swept all marks (b + 1) (e - (b + 1)) (swept_block all marks b m)
  unfolding swept
  swept-more h = ap (λ (k : ℕ). swept all marks b k m) (left_one b e h)

  pub swept-end : e ≤ b → swept all marks b (e - b) m ≡ m
  unfolding swept
  swept-end h = let z : e - b ≡ 0 = omega arith in ap (λ (k : ℕ). swept all marks b k m) z

-- none is kept
pub zero_all : (p next : List ℕ) (kept : ℕ) → next ≡ zeroed (length p - kept) p → kept ≡ 0 → next ≡ replicate (length p) 0
zero_all p next kept h z =
    let e : length p - kept ≡ length p = omega arith in
    let k : length p ≤ length p = omega arith in
    h ∙ ap (λ (n : ℕ). zeroed n p) e ∙ ap (λ (l : List ℕ). replicate (length p) 0 ++ l) (drop_of_length-le p k) ∙ append-nil (replicate (length p) 0)

-- a part of memory that is lent, put back zeroed
part-zeroed : (m : List ℕ) (a n : ℕ) → a + n ≤ length m
    → put_mid a (a + n - a) m (replicate (length (mid_of a (a + n - a) m)) 0) ≡ take a m ++ (replicate n 0 ++ drop (a + n) m)
part-zeroed m a n h =
    let e : a + n - a ≡ n = omega arith in
    ap₂ (λ (k : ℕ) (l : List ℕ). take a m ++ (replicate k 0 ++ l)) (mid_len a (a + n) m h ∙ e) (Post-is a (a + n) m (omega arith))

-- a block that is not protected, zeroed in the part that is lent for it
pub swept-part : (all : Bool) (marks : List ℕ) (b : ℕ) (m : List ℕ) (part : List ℕ) → (b + 1) * BLOCK ≤ length m
    → guarded all marks (b * BLOCK) ≡ false
    → part ≡ zeroed (length (mid_of (b * BLOCK) (b * BLOCK + BLOCK - b * BLOCK) m) - 0) (mid_of (b * BLOCK) (b * BLOCK + BLOCK - b * BLOCK) m)
    → put_mid (b * BLOCK) (b * BLOCK + BLOCK - b * BLOCK) m part ≡ swept_block all marks b m
unfolding swept_block
swept-part all marks b m part h g e =
    let a : ℕ = b * BLOCK in
    ap (put_mid a (a + BLOCK - a) m) (zero_all (mid_of a (a + BLOCK - a) m) part 0 e refl) ∙ part-zeroed m a BLOCK (omega arith)
    ∙ sym (ap (λ (t : Bool). cond t m (take a m ++ (replicate BLOCK 0 ++ drop (a + length {A = ℕ} (replicate BLOCK 0)) m))) g
    ∙ ap (λ (n : ℕ). take a m ++ (replicate BLOCK 0 ++ drop (a + n) m)) (length-replicate {A = ℕ} BLOCK 0))

-- a payload copied into the part that is lent for it
pub stored-part : (m s part : List ℕ) (a : ℕ) → a + length s ≤ length m
    → part ≡ take (length (mid_of a (a + length s - a) m)) s ++ drop (length s) (mid_of a (a + length s - a) m)
    → put_mid a (a + length s - a) m part ≡ over m a s
stored-part m s part a h e =
    let n : a + length s - a ≡ length s = omega arith in
    let size : length (mid_of a (a + length s - a) m) ≡ length s = mid_len a (a + length s) m h ∙ n in
    let short : length (mid_of a (a + length s - a) m) ≤ length s = omega arith in
    let whole : part ≡ s =
    e ∙ ap₂ (λ (x y : List ℕ). x ++ y) (ap (λ (k : ℕ). take k s) size ∙ take-length s) (drop_of_length-le (mid_of a (a + length s - a) m) short) ∙ append-nil s in
    ap₂ (λ (x y : List ℕ). take a m ++ (x ++ y)) whole (Post-is a (a + length s) m (omega arith))
