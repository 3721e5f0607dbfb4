-- What a layout ignores is its reserved bits, and nothing else.
use mathlib.Core.Path.{◌≡◌, refl, sym, ap, ap₂, ◌∙◌}
use mathlib.Core.Bool.{Bool, true, ◌&&◌, and-eq-true_iff}
use mathlib.Core.List.{List, [], ◌∷◌, ◌++◌}
use Prim.Native.Nat.{ℕ, ◌+◌, ◌≤◌}
use native.Mathlib.Omega.{arith}
use borrow.Author.Tests.{eqb-true}
use lib.Dec.{eqb}
use lib.ListN.{length, take, drop}
use lib.Seq.{take_at, drop_at, length-take-le}
use Rattle.crc.specs.Bits.{number}
use Rattle.codec.specs.Layout.{Slot, field, reserved, fixed, width, read, judged, kept}
use Rattle.codec.proofs.Bits.{number_inj}
use Rattle.codec.proofs.Slots.{behind}

-- a slot that is kept, and what is behind it
module _ (w k : ℕ) (xs ys : List Bool) (hx : w + k ≤ length xs) (hy : w + k ≤ length ys) where
  length-xs : length (take w xs) ≡ w
  length-xs = length-take-le w xs (omega arith)

  length-ys : length (take w ys) ≡ w
  length-ys = length-take-le w ys (omega arith)

  apart : (us vs : List Bool) → take w xs ++ us ≡ take w ys ++ vs → (take w xs ≡ take w ys) × (us ≡ vs)
  apart us vs e = (
    sym (take_at (take w xs) us w length-xs) ∙ ap (take w) e ∙ take_at (take w ys) vs w length-ys,
    sym (drop_at (take w xs) us w length-xs) ∙ ap (drop w) e ∙ drop_at (take w ys) vs w length-ys,
  )

  together : (us vs : List Bool) → number (take w xs) ≡ number (take w ys) → us ≡ vs → take w xs ++ us ≡ take w ys ++ vs
  together us vs e q = ap₂ (λ (x y : List Bool). x ++ y) (number_inj (take w xs) (take w ys) (length-xs ∙ sym length-ys) e) q

pub read_kept : (slots : List Slot) (xs ys : List Bool) → width slots ≤ length xs → width slots ≤ length ys
    → kept slots xs ≡ kept slots ys → read slots xs ≡ read slots ys
unfolding width kept read
read_kept [] xs ys hx hy e = refl
read_kept (field w ∷ slots) xs ys hx hy e =
    let (p, q) = apart w (width slots) xs ys hx hy (kept slots (drop w xs)) (kept slots (drop w ys)) e in
    ap₂ {A = ℕ} {B = List ℕ} (λ n r. n ∷ r) (ap number p)
    (read_kept slots (drop w xs) (drop w ys) (behind w (width slots) xs hx) (behind w (width slots) ys hy) q)
read_kept (reserved w ∷ slots) xs ys hx hy e =
    read_kept slots (drop w xs) (drop w ys) (behind w (width slots) xs hx) (behind w (width slots) ys hy) e
read_kept (fixed w v ∷ slots) xs ys hx hy e =
    let (p, q) = apart w (width slots) xs ys hx hy (kept slots (drop w xs)) (kept slots (drop w ys)) e in
    read_kept slots (drop w xs) (drop w ys) (behind w (width slots) xs hx) (behind w (width slots) ys hy) q

pub judged-kept : (slots : List Slot) (xs ys : List Bool) → width slots ≤ length xs → width slots ≤ length ys
    → kept slots xs ≡ kept slots ys → judged slots xs ≡ judged slots ys
unfolding width kept judged
judged-kept [] xs ys hx hy e = refl
judged-kept (field w ∷ slots) xs ys hx hy e =
    let (p, q) = apart w (width slots) xs ys hx hy (kept slots (drop w xs)) (kept slots (drop w ys)) e in
    judged-kept slots (drop w xs) (drop w ys) (behind w (width slots) xs hx) (behind w (width slots) ys hy) q
judged-kept (reserved w ∷ slots) xs ys hx hy e =
    judged-kept slots (drop w xs) (drop w ys) (behind w (width slots) xs hx) (behind w (width slots) ys hy) e
judged-kept (fixed w v ∷ slots) xs ys hx hy e =
    let (p, q) = apart w (width slots) xs ys hx hy (kept slots (drop w xs)) (kept slots (drop w ys)) e in
    ap₂ (λ (n : ℕ) (b : Bool). eqb n v && b) (ap number p)
    (judged-kept slots (drop w xs) (drop w ys) (behind w (width slots) xs hx) (behind w (width slots) ys hy) q)

pub kept_read : (slots : List Slot) (xs ys : List Bool) → width slots ≤ length xs → width slots ≤ length ys
    → judged slots xs ≡ true → judged slots ys ≡ true → read slots xs ≡ read slots ys → kept slots xs ≡ kept slots ys
unfolding width kept judged read
kept_read [] xs ys hx hy jx jy e = refl
kept_read (field w ∷ slots) xs ys hx hy jx jy e =
    let p : number (take w xs) ≡ number (take w ys) = cc in
    let q : read slots (drop w xs) ≡ read slots (drop w ys) = cc in
    together w (width slots) xs ys hx hy (kept slots (drop w xs)) (kept slots (drop w ys)) p
    (kept_read slots (drop w xs) (drop w ys) (behind w (width slots) xs hx) (behind w (width slots) ys hy) jx jy q)
kept_read (reserved w ∷ slots) xs ys hx hy jx jy e =
    kept_read slots (drop w xs) (drop w ys) (behind w (width slots) xs hx) (behind w (width slots) ys hy) jx jy e
kept_read (fixed w v ∷ slots) xs ys hx hy jx jy e =
    let (zx, cx) = (and-eq-true_iff (eqb (number (take w xs)) v) (judged slots (drop w xs))).0 jx in
    let (zy, cy) = (and-eq-true_iff (eqb (number (take w ys)) v) (judged slots (drop w ys))).0 jy in
    together w (width slots) xs ys hx hy (kept slots (drop w xs)) (kept slots (drop w ys))
    (eqb-true (number (take w xs)) v zx ∙ sym (eqb-true (number (take w ys)) v zy))
    (kept_read slots (drop w xs) (drop w ys) (behind w (width slots) xs hx) (behind w (width slots) ys hy) cx cy e)
