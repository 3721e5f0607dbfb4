-- Laws of layouts: what is written is read back, and what is read and written again is what was there.
use mathlib.Core.Path.{◌≡◌, refl, sym, ap, ap₂, ◌∙◌}
use mathlib.Core.Bool.{Bool, true, false≢true, and-eq-true_iff}
use mathlib.Core.List.{List, [], ◌∷◌, ◌++◌, append_assoc}
use Prim.Native.Nat.{ℕ, ◌+◌, ◌^◌, ◌≤◌}
use native.Mathlib.Nat.{mod-eq_of_lt}
use native.Mathlib.Omega.{arith}
use borrow.Author.Tests.{ltb-true, lt-ltb, eqb-true, eq-eqb}
use lib.Dec.{eqb, ltb}
use lib.ListN.{length, take, drop, length-append, length-drop}
use lib.Seq.{take_at, drop_at, length-take-le, take-add}
use Rattle.crc.specs.Bits.{bits, number}
use Rattle.crc.proofs.Bits.{length-bits, number-bits, number_lt}
use Rattle.codec.specs.Layout.{Slot, field, reserved, fixed, width, write, read, fits, judged, blank}
use Rattle.codec.proofs.Bits.{bits_of_lem, both}

length-behind : (w v k : ℕ) (bs : List Bool) → length bs ≡ k → length (bits w v ++ bs) ≡ w + k
length-behind w v k bs h = length-append (bits w v) bs ∙ ap₂ ◌+◌ (length-bits w v) h

pub length-write : (slots : List Slot) (vs : List ℕ) → length (write slots vs) ≡ width slots
unfolding write width
length-write [] vs = refl
length-write (field w ∷ slots) [] = length-behind w 0 (width slots) (write slots []) (length-write slots [])
length-write (field w ∷ slots) (v ∷ vs) = length-behind w v (width slots) (write slots vs) (length-write slots vs)
length-write (reserved w ∷ slots) vs = length-behind w 0 (width slots) (write slots vs) (length-write slots vs)
length-write (fixed w v ∷ slots) vs = length-behind w v (width slots) (write slots vs) (length-write slots vs)

-- ---- what is written is read back

-- a slot at the front of a word: its number, and what is behind it
number-front : (w v : ℕ) (bs rest : List Bool) → ltb v (2 ^ w) ≡ true → number (take w (bits w v ++ bs ++ rest)) ≡ v
number-front w v bs rest h =
    ap (λ (x : List Bool). number (take w x)) (append_assoc (bits w v) bs rest)
    ∙ ap number (take_at (bits w v) (bs ++ rest) w (length-bits w v))
    ∙ number-bits w v
    ∙ mod-eq_of_lt (ltb-true v (2 ^ w) h)

drop-front : (w v : ℕ) (bs rest : List Bool) → drop w (bits w v ++ bs ++ rest) ≡ bs ++ rest
drop-front w v bs rest = ap (drop w) (append_assoc (bits w v) bs rest) ∙ drop_at (bits w v) (bs ++ rest) w (length-bits w v)

pub read-write : (slots : List Slot) (vs : List ℕ) (rest : List Bool) → fits slots vs ≡ true → read slots (write slots vs ++ rest) ≡ vs
unfolding write read fits
read-write [] [] rest h = refl
read-write [] (v ∷ vs) rest h = absurd (false≢true h)
read-write (field w ∷ slots) [] rest h = absurd (false≢true h)
read-write (field w ∷ slots) (v ∷ vs) rest h =
    let (a, b) = (and-eq-true_iff (ltb v (2 ^ w)) (fits slots vs)).0 h in
    ap₂ {A = ℕ} {B = List ℕ} (λ x r. x ∷ r)
    (number-front w v (write slots vs) rest a)
    (ap (read slots) (drop-front w v (write slots vs) rest) ∙ read-write slots vs rest b)
read-write (reserved w ∷ slots) vs rest h = ap (read slots) (drop-front w 0 (write slots vs) rest) ∙ read-write slots vs rest h
read-write (fixed w v ∷ slots) vs rest h =
    ap (read slots) (drop-front w v (write slots vs) rest) ∙ read-write slots vs rest ((and-eq-true_iff (ltb v (2 ^ w)) (fits slots vs)).0 h).1

pub judged-write : (slots : List Slot) (vs : List ℕ) (rest : List Bool) → fits slots vs ≡ true → judged slots (write slots vs ++ rest) ≡ true
unfolding write judged fits
judged-write [] [] rest h = refl
judged-write [] (v ∷ vs) rest h = absurd (false≢true h)
judged-write (field w ∷ slots) [] rest h = absurd (false≢true h)
judged-write (field w ∷ slots) (v ∷ vs) rest h =
    ap (judged slots) (drop-front w v (write slots vs) rest) ∙ judged-write slots vs rest ((and-eq-true_iff (ltb v (2 ^ w)) (fits slots vs)).0 h).1
judged-write (reserved w ∷ slots) vs rest h = ap (judged slots) (drop-front w 0 (write slots vs) rest) ∙ judged-write slots vs rest h
judged-write (fixed w v ∷ slots) vs rest h =
    let (a, b) = (and-eq-true_iff (ltb v (2 ^ w)) (fits slots vs)).0 h in
    both
    (eq-eqb (number (take w (write (fixed w v ∷ slots) vs ++ rest))) v (number-front w v (write slots vs) rest a))
    (ap (judged slots) (drop-front w v (write slots vs) rest) ∙ judged-write slots vs rest b)

-- ---- what is read is written back

-- the slots behind the first
pub behind : (w k : ℕ) (bs : List Bool) → w + k ≤ length bs → k ≤ length (drop w bs)
behind w k bs h = omega (arith, length-drop w bs)

-- a slot written back, and what is behind it
back : (w k v : ℕ) (bs r : List Bool) → w + k ≤ length bs → number (take w bs) ≡ v → r ≡ take k (drop w bs) → bits w v ++ r ≡ take (w + k) bs
back w k v bs r h e p =
    ap₂ (λ (x y : List Bool). x ++ y)
    (ap (bits w) (sym e) ∙ bits_of_lem w (take w bs) (length-take-le w bs (omega arith)))
    p
    ∙ sym (take-add w k bs)

pub write_read : (slots : List Slot) (bs : List Bool) → width slots ≤ length bs → judged slots bs ≡ true → blank slots bs ≡ true
    → write slots (read slots bs) ≡ take (width slots) bs
unfolding width write read judged blank
write_read [] bs h j b = refl
write_read (field w ∷ slots) bs h j b =
    back w (width slots) (number (take w bs)) bs (write slots (read slots (drop w bs))) h refl
    (write_read slots (drop w bs) (behind w (width slots) bs h) j b)
write_read (reserved w ∷ slots) bs h j b =
    let (z, c) = (and-eq-true_iff (eqb (number (take w bs)) 0) (blank slots (drop w bs))).0 b in
    back w (width slots) 0 bs (write slots (read slots (drop w bs))) h (eqb-true (number (take w bs)) 0 z)
    (write_read slots (drop w bs) (behind w (width slots) bs h) j c)
write_read (fixed w v ∷ slots) bs h j b =
    let (z, c) = (and-eq-true_iff (eqb (number (take w bs)) v) (judged slots (drop w bs))).0 j in
    back w (width slots) v bs (write slots (read slots (drop w bs))) h (eqb-true (number (take w bs)) v z)
    (write_read slots (drop w bs) (behind w (width slots) bs h) c b)

fit : (w k v : ℕ) (bs : List Bool) → w + k ≤ length bs → number (take w bs) ≡ v → ltb v (2 ^ w) ≡ true
fit w k v bs h e =
    let l : length (take w bs) ≡ w = length-take-le w bs (omega arith) in
    lt-ltb v (2 ^ w) (omega (arith, number_lt (take w bs), ap (λ (n : ℕ). 2 ^ n) l))

-- a value that is read fits, so that it can be written again
pub fits_read : (slots : List Slot) (bs : List Bool) → width slots ≤ length bs → judged slots bs ≡ true → fits slots (read slots bs) ≡ true
unfolding width read judged fits
fits_read [] bs h j = refl
fits_read (field w ∷ slots) bs h j =
    both (fit w (width slots) (number (take w bs)) bs h refl) (fits_read slots (drop w bs) (behind w (width slots) bs h) j)
fits_read (reserved w ∷ slots) bs h j = fits_read slots (drop w bs) (behind w (width slots) bs h) j
fits_read (fixed w v ∷ slots) bs h j =
    let (z, c) = (and-eq-true_iff (eqb (number (take w bs)) v) (judged slots (drop w bs))).0 j in
    both (fit w (width slots) v bs h (eqb-true (number (take w bs)) v z)) (fits_read slots (drop w bs) (behind w (width slots) bs h) c)
